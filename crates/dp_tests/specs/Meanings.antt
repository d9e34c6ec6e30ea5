-- What a line of a test file means by itself.
use Rattle.std.specs.Prelude.{ℕ, Bool, true, false, ◌||◌, ◌==◌, List, [], ◌∷◌, ◌++◌, map, Option, Some, None, codes, if◌then◌else◌}
use Rattle.std.specs.List.{list_all}
use Rattle.std.specs.Option.{option_and_then}
use Rattle.std.specs.Str.{byte}
use Rattle.dp_conf.specs.Blanks.{trim}
use Rattle.dp_conf.specs.Words.{same_text}
use Rattle.dp_machine.specs.Events.{is_digit}
use Rattle.dp_machine.specs.declared.event.Event.TheVariants.{Digit}
use Rattle.dp_commands.specs.Script as script
use Rattle.dp_commands.specs.declared.script.ScriptLine.{ScriptLine}
use Rattle.dp_wide_runs.specs.Lines as lines
use Rattle.dp_wide_runs.specs.declared.wide_turn.WideTurn.{WideTurn}
use Rattle.dp_tests.specs.Expectations.{expectation_in}
use Rattle.dp_tests.specs.declared.expectation.Expectation.{Expectation}
use Rattle.dp_tests.specs.declared.fault.TestFaultKind.TheVariants.{BadLine, BadExpect}
use Rattle.dp_tests.specs.declared.file.Act.TheVariants as acts
use Rattle.dp_tests.specs.declared.meaning.HeadWord.{HeadWord}
use Rattle.dp_tests.specs.declared.meaning.HeadWord.TheVariants.{Dialplan, Queues, Clock, Assume}
use Rattle.dp_tests.specs.declared.meaning.LineMeaning.{LineMeaning}
use Rattle.dp_tests.specs.declared.meaning.LineMeaning.TheVariants.{Nothing, Head, Begin, Event, Expect, Faulty}
use Rattle.dp_tests.specs.declared.meaning.MeantLine.{MeantLine}

-- ---- turns

abbrev pub Turns : Type 0
Turns = List (ScriptLine WideTurn)

-- the words of a text
abbrev pub words_of : List ℕ → List (List ℕ)
words_of text = script.words_of text

-- the turns of a line, if it is valid
abbrev pub sound_turns : Bool → Turns → Option Turns
sound_turns is_sound turns = if is_sound then Some turns else None

-- the turns of a line of a script with facts that has no second dialplan; None if it is faulty
abbrev pub turns_of : List ℕ → Option Turns
turns_of part = lines.stands_for None part

-- `call CONTEXT EXTEN [CALLER]` is `start CONTEXT EXTEN [CALLER]`, given the text after `call`
abbrev pub call_turns : List ℕ → Option Turns
call_turns rest = turns_of (codes "start " ++ rest)

-- a line that dials a digit once
abbrev pub dials : ℕ → ℕ → ScriptLine WideTurn
dials channel digit = lines.gives (Digit channel digit)

-- the turns of a channel that dials digit after digit
abbrev pub dialled_turns : ℕ → List ℕ → Option Turns
dialled_turns channel digits = if list_all is_digit digits then Some (map (dials channel) digits) else None

-- the same, if a word writes the channel's number
abbrev pub dial_turns_of : List ℕ → List ℕ → Option Turns
dial_turns_of word digits = option_and_then (λ channel. dialled_turns channel digits) (script.channel_in word)

-- `dial CH DIGITS`, given the words after `dial`
abbrev pub dial_turns : List (List ℕ) → Option Turns
dial_turns [] = None
dial_turns (channel ∷ []) = None
dial_turns (channel ∷ digits ∷ []) = dial_turns_of channel digits
dial_turns (channel ∷ digits ∷ more ∷ words) = None

-- ---- lines

-- a line that is not of this language
abbrev pub bad_line : LineMeaning
bad_line = Faulty BadLine

-- a line is skipped if it has no word, or if its first word begins with `;`
abbrev pub is_passed_over : List ℕ → Bool
is_passed_over [] = true
is_passed_over (b ∷ word) = b == byte ";"

-- the line of the head that begins with a word
abbrev pub head_word : List ℕ → Option HeadWord
head_word word =
    if same_text word (codes "dialplan") then Some Dialplan
    else if same_text word (codes "queues") then Some Queues
    else if same_text word (codes "clock") then Some Clock
    else if same_text word (codes "assume") then Some Assume
    else None

-- whether such a line states a fact, as an event line does
abbrev pub is_fact : HeadWord → Bool
is_fact Dialplan = false
is_fact Queues = false
is_fact Clock = true
is_fact Assume = true

-- a line of the head that names a file, given the text after its first word
abbrev pub file_head : HeadWord → List ℕ → LineMeaning
file_head word [] = bad_line
file_head word (b ∷ text) = Head word (b ∷ text) []

-- a line of the head that states a fact, given the text after its first word and the turns of the line
abbrev pub fact_head : HeadWord → List ℕ → Option Turns → LineMeaning
fact_head word text None = bad_line
fact_head word text (Some turns) = Head word text turns

-- a line of the head, given its first word and the text after it
abbrev pub head_meaning : HeadWord → List ℕ → List ℕ → LineMeaning
head_meaning word part text = if is_fact word then fact_head word text (turns_of part) else file_head word text

-- an event line with these turns
abbrev pub gives : Option Turns → LineMeaning
gives None = bad_line
gives (Some turns) = Event (acts.Turns turns)

-- `reload FILE`, given the text after `reload`
abbrev pub reload_meaning : List ℕ → LineMeaning
reload_meaning [] = bad_line
reload_meaning (b ∷ text) = Event (acts.Reload (b ∷ text))

-- whether only a script has lines with a first word: in a test each event is followed by the steps that it makes possible, and an
-- expectation says what would be shown
abbrev pub is_for_scripts : List ℕ → Bool
is_for_scripts word = same_text word (codes "step") || same_text word (codes "show")

-- an event line, given its first word and the text after it
abbrev pub event_meaning : List ℕ → List ℕ → List ℕ → LineMeaning
event_meaning part word text =
    if same_text word (codes "reload") then reload_meaning text
    else if same_text word (codes "call") then gives (call_turns text)
    else if same_text word (codes "dial") then gives (dial_turns (words_of text))
    else if is_for_scripts word then bad_line
    else gives (turns_of part)

-- a line of the head or an event line, given its first word and the text after it
abbrev pub head_or_event : Option HeadWord → List ℕ → List ℕ → List ℕ → LineMeaning
head_or_event None part word text = event_meaning part word text
head_or_event (Some head) part word text = head_meaning head part text

-- an `expect` line with this expectation
abbrev pub expect_by : Option Expectation → LineMeaning
expect_by None = Faulty BadExpect
expect_by (Some expectation) = Expect expectation

-- an `expect` line, given the text after `expect`
abbrev pub expect_meaning : List ℕ → LineMeaning
expect_meaning text = expect_by (expectation_in text)

-- a line that begins a test, given the text after `test`: the test's name
abbrev pub begins : List ℕ → LineMeaning
begins text = Begin text

-- what a line means, given its first word and the text after it
abbrev pub meaning_by : List ℕ → List ℕ × List ℕ → LineMeaning
meaning_by part cut =
    if is_passed_over cut.0 then Nothing
    else if same_text cut.0 (codes "test") then begins cut.1
    else if same_text cut.0 (codes "expect") then expect_meaning cut.1
    else head_or_event (head_word cut.0) part cut.0 cut.1

abbrev pub meaning_in : List ℕ → LineMeaning
meaning_in part = meaning_by part (lines.cut_word (trim part))

-- what a line means by itself
unfoldable pub meaning_of : List ℕ → LineMeaning
meaning_of part = meaning_in part

-- a line with a number, and what it means by itself
abbrev pub meant_at : ℕ → List ℕ → MeantLine
meant_at line part = record { line = line; meaning = meaning_of part }
