-- What the text after `expect` expects.
use Rattle.std.specs.Prelude.{ℕ, Bool, false, true, ◌||◌, ◌==◌, List, [], ◌∷◌, Option, Some, None, Result, Ok, Err, codes, if◌then◌else◌}
use Rattle.std.specs.List.{find, list_any}
use Rattle.std.specs.Option.{option_and_then, option_map}
use Rattle.dp_conf.specs.Blanks.{trim}
use Rattle.dp_conf.specs.Cut.{cut_once}
use Rattle.dp_conf.specs.Levels.{arguments_of}
use Rattle.dp_conf.specs.Words.{same_text, same_word}
use Rattle.dp_machine.specs.Codes.{refusal_code, refusal_name}
use Rattle.dp_machine.specs.declared.refusal.Refusal.{Refusal}
use Rattle.dp_machine.specs.declared.refusal.Refusal.TheVariants.{NoChannel, NotReady, NotWaiting, NoTimer, NoQueue, NobodyWaiting, NoMember, NotRinging, NotTalking, Ended, NumbersSpent, BadDigit, BadPlan, NotDialling}
use Rattle.dp_pattern.specs.Name.{Meaning, meaning_of}
use Rattle.dp_pattern.specs.declared.fault.NameFault.{NameFault}
use Rattle.dp_plan.specs.EntryLine.{without_last}
use Rattle.dp_commands.specs.Debug.{is_comma, priority_in}
use Rattle.dp_commands.specs.Script.{channel_in, number_within, words_of}
use Rattle.dp_wide_runs.specs.Lines.{cut_word, setting_in}
use Rattle.dp_tests.specs.declared.expectation.ExpectedCall.{ExpectedCall}
use Rattle.dp_tests.specs.declared.expectation.LineClaim.{LineClaim}
use Rattle.dp_tests.specs.declared.expectation.LineClaim.TheVariants.{State, Ran, Passed, At, Value, Rings, Waiting, Refused}
use Rattle.dp_tests.specs.declared.expectation.ExpectedPlace.{ExpectedPlace}
use Rattle.dp_tests.specs.declared.expectation.Expectation.{Expectation}

-- ---- calls of applications

-- an application, which has a name, with its arguments if they are given
abbrev pub call_of : List ℕ → Option (List ℕ) → Option ExpectedCall
call_of [] arguments = None
call_of (byte ∷ name) arguments = Some (record { application = byte ∷ name; arguments = arguments })

-- the same; the name of an application has no comma
abbrev pub named_call : List ℕ → Option (List ℕ) → Option ExpectedCall
named_call name arguments = if list_any is_comma name then None else call_of name arguments

-- the call with this name before its `(`, and with this text after it: the arguments end at a final `)`
abbrev pub call_with : List ℕ → List ℕ → Option ExpectedCall
call_with name rest = option_and_then (λ arguments. named_call (trim name) (Some arguments)) (without_last 41 rest)

-- the call of a text that was cut at its first `(`
abbrev pub call_by : List ℕ → Option (List ℕ × List ℕ) → Option ExpectedCall
call_by text None = named_call text None
call_by text (Some cut) = call_with cut.0 cut.1

-- the call that a text writes: `APP`, with any arguments, or `APP(ARGS)`
abbrev pub call_in : List ℕ → Option ExpectedCall
call_in text = call_by text (cut_once 40 text)

-- ---- places of entries

-- a name that was read
abbrev pub name_by : Result Meaning NameFault → Option Meaning
name_by (Ok name) = Some name
name_by (Err fault) = None

-- the name that a text writes, by its meaning
abbrev pub name_in : List ℕ → Option Meaning
name_in text = name_by (meaning_of text)

-- the place of all entries of a name in a context, which has a name too
abbrev pub named_place : List ℕ → Option Meaning → Option ExpectedPlace
named_place [] name = None
named_place (byte ∷ context) None = None
named_place (byte ∷ context) (Some name) = Some (record { context = byte ∷ context; name = name; priority = None })

abbrev pub with_priority : ℕ → ExpectedPlace → ExpectedPlace
with_priority priority place = record place { priority = Some priority }

-- the place of the entry with a priority too
abbrev pub numbered_place : List ℕ → List ℕ → List ℕ → Option ExpectedPlace
numbered_place context name word =
    option_and_then (λ priority. option_map (with_priority priority) (named_place context (name_in name))) (priority_in word)

-- the place that the parts of a text write
abbrev pub place_by : List (List ℕ) → Option ExpectedPlace
place_by [] = None
place_by (context ∷ []) = None
place_by (context ∷ name ∷ []) = named_place context (name_in name)
place_by (context ∷ name ∷ priority ∷ []) = numbered_place context name priority
place_by (context ∷ name ∷ priority ∷ more ∷ parts) = None

-- the place that a text writes: `CONTEXT,NAME` or `CONTEXT,NAME,PRIORITY`
abbrev pub place_in : List ℕ → Option ExpectedPlace
place_in text = place_by (arguments_of text)

-- ---- refusals

-- all refusals, in the order of their numbers
abbrev pub refusals : List Refusal
refusals =
    NoChannel ∷ NotReady ∷ NotWaiting ∷ NoTimer ∷ NoQueue ∷ NobodyWaiting ∷ NoMember ∷ NotRinging ∷ NotTalking ∷ Ended ∷ NumbersSpent
    ∷ BadDigit ∷ BadPlan ∷ NotDialling ∷ []

-- the greatest number of a refusal
abbrev pub most_code : ℕ
most_code = 53

-- whether there is a number, and it is this one
abbrev pub is_numbered : Option ℕ → ℕ → Bool
is_numbered None code = false
is_numbered (Some number) code = number == code

-- whether a word is a refusal's printed name, in any case, or its number
abbrev pub is_called : List ℕ → Refusal → Bool
is_called word refusal = same_word word (refusal_name refusal) || is_numbered (number_within most_code word) (refusal_code refusal)

-- the refusal that a word names
abbrev pub refusal_in : List ℕ → Option Refusal
refusal_in word = find (is_called word) refusals

-- ---- claims on a channel

-- `NAME=VALUE`, of a channel or of the global
abbrev pub value_claim : Option ℕ → List ℕ → Option LineClaim
value_claim channel text = option_map (λ setting. Value channel setting.0 setting.1) (setting_in text)

-- `ran APP[(ARGS)]`, given the text after `ran`
abbrev pub ran_claim : ℕ → List ℕ → Option LineClaim
ran_claim channel text = option_map (λ call. Ran channel call) (call_in text)

-- `passed APP[(ARGS)]`, given the text after `passed`
abbrev pub passed_claim : ℕ → List ℕ → Option LineClaim
passed_claim channel text = option_map (λ call. Passed channel call) (call_in text)

-- `at CONTEXT,NAME[,PRIORITY]`, given the text after `at`
abbrev pub at_claim : ℕ → List ℕ → Option LineClaim
at_claim channel text = option_map (λ place. At channel place) (place_in text)

-- a state, as it is printed
abbrev pub state_claim : ℕ → List ℕ → Option LineClaim
state_claim channel text = Some (State channel text)

-- whether the printed state of a channel can begin with a word
abbrev pub is_state_word : List ℕ → Bool
is_state_word word =
    same_text word (codes "ready") || (same_text word (codes "digits") || (same_text word (codes "pause")
    || (same_text word (codes "queued") || (same_text word (codes "talking") || (same_text word (codes "dialling")
    || (same_text word (codes "ended") || same_text word (codes "unknown")))))))

-- the claim on a channel, given the text after its number, and that text cut at its first word
abbrev pub channel_claim : ℕ → List ℕ → List ℕ × List ℕ → Option LineClaim
channel_claim channel text cut =
    if same_text cut.0 (codes "ran") then ran_claim channel cut.1
    else if same_text cut.0 (codes "passed") then passed_claim channel cut.1
    else if same_text cut.0 (codes "at") then at_claim channel cut.1
    else if is_state_word cut.0 then state_claim channel text
    else value_claim (Some channel) text

-- the claim of a word that writes the channel's number, and the text after it
abbrev pub numbered_claim : List ℕ → List ℕ → Option LineClaim
numbered_claim word rest = option_and_then (λ channel. channel_claim channel rest (cut_word rest)) (channel_in word)

-- ---- other claims

-- `rings AGENT..`, given the words after `rings`
abbrev pub rings_claim : List (List ℕ) → Option LineClaim
rings_claim [] = None
rings_claim (agent ∷ agents) = Some (Rings (agent ∷ agents))

-- the greatest number of channels that a line can say to wait
abbrev pub most_waiting : ℕ
most_waiting = 4294967295

-- `waiting QUEUE N`, given its words
abbrev pub waiting_by : List ℕ → List ℕ → Option LineClaim
waiting_by queue word = option_map (λ count. Waiting queue count) (number_within most_waiting word)

-- the same, given the words after `waiting`
abbrev pub waiting_claim : List (List ℕ) → Option LineClaim
waiting_claim [] = None
waiting_claim (queue ∷ []) = None
waiting_claim (queue ∷ count ∷ []) = waiting_by queue count
waiting_claim (queue ∷ count ∷ more ∷ words) = None

-- `refused CODE`, given the code
abbrev pub refused_by : List ℕ → Option LineClaim
refused_by word = option_map (λ refusal. Refused (Some refusal)) (refusal_in word)

-- `refused [CODE]`, given the words after `refused`
abbrev pub refused_claim : List (List ℕ) → Option LineClaim
refused_claim [] = Some (Refused None)
refused_claim (code ∷ []) = refused_by code
refused_claim (code ∷ more ∷ words) = None

-- the claim that a first word and the text after it make
abbrev pub claim_by : List ℕ × List ℕ → Option LineClaim
claim_by cut =
    if same_text cut.0 (codes "global") then value_claim None cut.1
    else if same_text cut.0 (codes "rings") then rings_claim (words_of cut.1)
    else if same_text cut.0 (codes "waiting") then waiting_claim (words_of cut.1)
    else if same_text cut.0 (codes "refused") then refused_claim (words_of cut.1)
    else numbered_claim cut.0 cut.1

-- ---- expectations

-- that a claim holds, or that it does not
abbrev pub expects : Bool → LineClaim → Expectation
expects is_negated claim = record { is_negated = is_negated; claim = claim }

-- the expectation of a first word and the text after it; after `not` comes the claim that does not hold
abbrev pub expectation_by : List ℕ × List ℕ → Option Expectation
expectation_by cut =
    if same_text cut.0 (codes "not") then option_map (expects true) (claim_by (cut_word cut.1))
    else option_map (expects false) (claim_by cut)

-- what a text expects
abbrev pub expectation_in : List ℕ → Option Expectation
expectation_in text = expectation_by (cut_word text)
