-- A script: its lines, and the turns that they give.
use Rattle.std.specs.Prelude.{ℕ, ◌+◌, Bool, true, not, ◌==◌, nat_le, List, [], ◌∷◌, length, filter, replicate, Option, Some, None, Result, Ok, Err, codes, if◌then◌else◌}
use Rattle.std.specs.List.{slice_split, flat_map}
use Rattle.std.specs.Option.{option_and_then, option_map, option_or}
use Rattle.dp_conf.specs.Answers.{all_of, each_after}
use Rattle.dp_conf.specs.Blanks.{is_blank}
use Rattle.dp_conf.specs.Cut.{begins_with}
use Rattle.dp_conf.specs.Lines.{parts_of}
use Rattle.dp_conf.specs.Numbers.{number_of}
use Rattle.dp_conf.specs.Words.{same_text}
use Rattle.dp_machine.specs.Codes.{status_name}
use Rattle.dp_machine.specs.declared.dial_status.DialStatus.{DialStatus}
use Rattle.dp_machine.specs.declared.dial_status.DialStatus.TheVariants as statuses
use Rattle.dp_machine.specs.declared.event.Event.{Event as MachineEvent}
use Rattle.dp_machine.specs.declared.event.Event.TheVariants.{Start, Step, Digit, Timeout, Poll, Hangup, DialResult, Offer, Answer, Decline, AgentDone, Reload}
use Rattle.dp_commands.specs.declared.fault.Code.TheVariants.{BadScript}
use Rattle.dp_commands.specs.declared.fault.PbxFault.{PbxFault}
use Rattle.dp_commands.specs.declared.fault.PbxFault.TheVariants.{Coded}
use Rattle.dp_commands.specs.declared.script.ScriptLine.{ScriptLine}
use Rattle.dp_commands.specs.declared.script.Turn.{Turn}
use Rattle.dp_commands.specs.declared.script.Turn.TheVariants.{Event, Show}

-- whether a word has a byte
abbrev pub is_word : List ℕ → Bool
is_word word = not (length word == 0)

-- the words of a line, which blanks separate
abbrev pub words_of : List ℕ → List (List ℕ)
words_of line = filter is_word (slice_split is_blank line)

-- the number that a word writes, up to a limit
abbrev pub number_within : ℕ → List ℕ → Option ℕ
number_within limit word = option_and_then (λ n. if nat_le n limit then Some n else None) (number_of word)

-- the greatest channel number in a script
abbrev pub most_channel : ℕ
most_channel = 4294967295

-- the greatest number of times that a line can repeat its turn
abbrev pub most_count : ℕ
most_count = 100000

-- the channel number that a word writes
abbrev pub channel_in : List ℕ → Option ℕ
channel_in word = number_within most_channel word

-- a line that gives its turn once
abbrev pub once : {U : Type 0} → U → ScriptLine U
once turn = record { turn = turn; count = 1 }

-- a number of steps of a channel
abbrev pub steps_of : Option ℕ → Option ℕ → Option (ScriptLine Turn)
steps_of None count = None
steps_of (Some channel) None = None
steps_of (Some channel) (Some count) = Some (record { turn = Event (Step channel); count = count })

-- the phone call that a `start` line makes
abbrev pub start_line : List (List ℕ) → Option (ScriptLine Turn)
start_line [] = None
start_line (context ∷ []) = None
start_line (context ∷ exten ∷ []) = Some (once (Event (Start context exten [])))
start_line (context ∷ exten ∷ caller ∷ []) = Some (once (Event (Start context exten caller)))
start_line (context ∷ exten ∷ caller ∷ more ∷ words) = None

-- the steps that a `step` line gives
abbrev pub step_line : List (List ℕ) → Option (ScriptLine Turn)
step_line [] = None
step_line (channel ∷ []) = steps_of (channel_in channel) (Some 1)
step_line (channel ∷ count ∷ []) = steps_of (channel_in channel) (number_within most_count count)
step_line (channel ∷ count ∷ more ∷ words) = None

-- the digit that a channel dials: a word of one byte
abbrev pub dialled_by : Option ℕ → List ℕ → Option (ScriptLine Turn)
dialled_by None word = None
dialled_by (Some channel) [] = None
dialled_by (Some channel) (digit ∷ []) = Some (once (Event (Digit channel digit)))
dialled_by (Some channel) (digit ∷ more ∷ bytes) = None

-- the digit that a `digit` line dials
abbrev pub digit_line : List (List ℕ) → Option (ScriptLine Turn)
digit_line [] = None
digit_line (channel ∷ []) = None
digit_line (channel ∷ digit ∷ []) = dialled_by (channel_in channel) digit
digit_line (channel ∷ digit ∷ more ∷ words) = None

-- the result of a call to devices that a word names
abbrev pub status_in : List ℕ → Option DialStatus
status_in word =
    if same_text word (status_name statuses.Answer) then Some statuses.Answer
    else if same_text word (status_name statuses.Busy) then Some statuses.Busy
    else if same_text word (status_name statuses.NoAnswer) then Some statuses.NoAnswer
    else if same_text word (status_name statuses.Congestion) then Some statuses.Congestion
    else if same_text word (status_name statuses.ChanUnavail) then Some statuses.ChanUnavail
    else None

-- the result of a channel's call to devices
abbrev pub result_by : Option ℕ → Option DialStatus → Option (ScriptLine Turn)
result_by None status = None
result_by (Some channel) None = None
result_by (Some channel) (Some status) = Some (once (Event (DialResult channel status)))

-- the result that a `result` line gives
abbrev pub result_line : List (List ℕ) → Option (ScriptLine Turn)
result_line [] = None
result_line (channel ∷ []) = None
result_line (channel ∷ status ∷ []) = result_by (channel_in channel) (status_in status)
result_line (channel ∷ status ∷ more ∷ words) = None

-- the channel that a line names, if it has just one word after its first
abbrev pub one_channel : List (List ℕ) → Option ℕ
one_channel [] = None
one_channel (channel ∷ []) = channel_in channel
one_channel (channel ∷ more ∷ words) = None

-- the name that a line gives, if it has just one word after its first
abbrev pub one_name : List (List ℕ) → Option (List ℕ)
one_name [] = None
one_name (name ∷ []) = Some name
one_name (name ∷ more ∷ words) = None

-- the line of an event, given what the event names
abbrev pub event_line : {X : Type 0} → (X → MachineEvent) → Option X → Option (ScriptLine Turn)
event_line event named = option_map (λ x. once (Event (event x))) named

-- the meaning of a line for a channel's event, given its words
abbrev pub channel_line : List ℕ → List (List ℕ) → Option (ScriptLine Turn)
channel_line word words =
    if same_text word (codes "timeout") then event_line (λ n. Timeout n) (one_channel words)
    else if same_text word (codes "poll") then event_line (λ n. Poll n) (one_channel words)
    else if same_text word (codes "hangup") then event_line (λ n. Hangup n) (one_channel words)
    else None

-- the meaning of a line for a queue's or an agent's event, given its words
abbrev pub agent_line : List ℕ → List (List ℕ) → Option (ScriptLine Turn)
agent_line word words =
    if same_text word (codes "offer") then event_line (λ name. Offer name) (one_name words)
    else if same_text word (codes "answer") then event_line (λ name. Answer name) (one_name words)
    else if same_text word (codes "decline") then event_line (λ name. Decline name) (one_name words)
    else if same_text word (codes "done") then event_line (λ name. AgentDone name) (one_name words)
    else None

-- the reload of the second dialplan, if there is one
abbrev pub reload_by : Option (List ℕ) → Option (ScriptLine Turn)
reload_by second_plan = event_line (λ text. Reload text) second_plan

-- the reload that a `reload` line gives; the line has no further word
abbrev pub reload_line : Option (List ℕ) → List (List ℕ) → Option (ScriptLine Turn)
reload_line second_plan [] = reload_by second_plan
reload_line second_plan (word ∷ words) = None

-- a name to show in a channel
abbrev pub shown_by : Option ℕ → List ℕ → Option (ScriptLine Turn)
shown_by None name = None
shown_by (Some channel) name = Some (once (Show channel name))

-- what a `show` line shows
abbrev pub show_line : List (List ℕ) → Option (ScriptLine Turn)
show_line [] = None
show_line (channel ∷ []) = None
show_line (channel ∷ name ∷ []) = shown_by (channel_in channel) name
show_line (channel ∷ name ∷ more ∷ words) = None

-- the meaning of a line, given its words and the second dialplan, which a `reload` line loads; None if the line is faulty
abbrev pub line_by : Option (List ℕ) → List (List ℕ) → Option (ScriptLine Turn)
line_by second_plan [] = None
line_by second_plan (word ∷ words) =
    if same_text word (codes "start") then start_line words
    else if same_text word (codes "step") then step_line words
    else if same_text word (codes "digit") then digit_line words
    else if same_text word (codes "result") then result_line words
    else if same_text word (codes "reload") then reload_line second_plan words
    else if same_text word (codes "show") then show_line words
    else option_or (channel_line word words) (agent_line word words)

-- whether a line is skipped: it has no words or begins with `;`
abbrev pub is_skipped : List (List ℕ) → Bool
is_skipped [] = true
is_skipped (word ∷ words) = begins_with 59 word

-- the meaning of a line with these words, which is empty if it is skipped; None if the line is faulty
abbrev pub line_of : Option (List ℕ) → List (List ℕ) → Option (List (ScriptLine Turn))
line_of second_plan words = if is_skipped words then Some [] else option_map (λ line. line ∷ []) (line_by second_plan words)

-- the meaning of a line with this text, which is empty if it is skipped; None if the line is faulty
abbrev pub line_in : Option (List ℕ) → List ℕ → Option (List (ScriptLine Turn))
line_in second_plan part = line_of second_plan (words_of part)

-- the result of reading the line with a number: the line, or its fault
abbrev pub reading_at : {U : Type 0} → ℕ → Option (List (ScriptLine U)) → Result (List (ScriptLine U)) PbxFault
reading_at line None = Err (Coded BadScript (Some line))
reading_at line (Some lines) = Ok lines

-- the result of reading a line, given the meaning of lines and the lines before it
abbrev pub reading_by : {U : Type 0} → (List ℕ → Option (List (ScriptLine U))) → List (List ℕ) → List ℕ → Result (List (ScriptLine U)) PbxFault
reading_by stands_for before part = reading_at (length before + 1) (stands_for part)

-- the result of reading a line, given the lines before it
abbrev pub reading_of : Option (List ℕ) → List (List ℕ) → List ℕ → Result (List (ScriptLine Turn)) PbxFault
reading_of second_plan before part = reading_by (line_in second_plan) before part

-- the lines of a script, given the meaning of lines; or the fault of the first faulty line
unfoldable pub script_by : {U : Type 0} → (List ℕ → Option (List (ScriptLine U))) → List ℕ → Result (List (ScriptLine U)) PbxFault
script_by stands_for text = all_of (each_after (reading_by stands_for) [] (parts_of text))

-- the lines of a script, with an optional second dialplan; or the fault of the first faulty line
unfoldable pub script_of : Option (List ℕ) → List ℕ → Result (List (ScriptLine Turn)) PbxFault
script_of second_plan text = all_of (each_after (reading_of second_plan) [] (parts_of text))

-- the turns of a line
abbrev pub line_turns : {U : Type 0} → ScriptLine U → List U
line_turns line = replicate line.count line.turn

-- the turns of a script
abbrev pub turns_of : {U : Type 0} → List (ScriptLine U) → List U
turns_of lines = flat_map line_turns lines
