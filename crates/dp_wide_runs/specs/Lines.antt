-- A script with facts: the meaning of its lines. The lines of a plain script mean what they mean there.
use Rattle.std.specs.Prelude.{ℕ, ◌-◌, Bool, ◌||◌, nat_le, min, List, [], ◌∷◌, map, position, take, drop, Option, Some, None, is_some, Result, codes, if◌then◌else◌}
use Rattle.std.specs.List.{flat_map}
use Rattle.std.specs.Option.{option_and_then, option_map}
use Rattle.dp_conf.specs.Blanks.{is_blank, trim}
use Rattle.dp_conf.specs.Cut.{cut_once}
use Rattle.dp_conf.specs.Numbers.{most_priority}
use Rattle.dp_conf.specs.Words.{same_text}
use Rattle.dp_app.specs.declared.place.Place.{Place}
use Rattle.dp_machine.specs.Codes.{status_name}
use Rattle.dp_machine.specs.declared.dial_status.DialStatus.{DialStatus}
use Rattle.dp_machine.specs.declared.dial_status.DialStatus.TheVariants as statuses
use Rattle.dp_machine.specs.declared.event.Event.{Event as MachineEvent}
use Rattle.dp_machine.specs.declared.event.Event.TheVariants.{Start, Step, Digit, Timeout, Poll, Hangup, DialResult, Offer, Answer, Decline, AgentDone, Reload, Assign, Redirect}
use Rattle.dp_wide.specs.CellValues.{assumed_name}
use Rattle.dp_wide.specs.Times.{moment_of}
use Rattle.dp_commands.specs.Script.{channel_in, line_in, number_within, once, one_channel, script_by, words_of}
use Rattle.dp_commands.specs.declared.fault.PbxFault.{PbxFault}
use Rattle.dp_commands.specs.declared.script.ScriptLine.{ScriptLine}
use Rattle.dp_commands.specs.declared.script.Turn.{Turn}
use Rattle.dp_commands.specs.declared.script.Turn.TheVariants.{Event, Show}
use Rattle.dp_wide_runs.specs.declared.wide_turn.WideTurn.{WideTurn}
use Rattle.dp_wide_runs.specs.declared.wide_turn.WideTurn.TheVariants.{Plain, Further, Pass}

-- a text cut at its first blank; the part after it has no blanks at its ends
abbrev pub cut_at : List ℕ → Option ℕ → List ℕ × List ℕ
cut_at text None = (text, [])
cut_at text (Some place) = (take place text, trim (drop place text))

-- the first word of a text that begins with a word, and the rest without blanks at its ends
abbrev pub cut_word : List ℕ → List ℕ × List ℕ
cut_word text = cut_at text (position is_blank text)

-- a name and its value; a name has a byte
abbrev pub setting_of : List ℕ → List ℕ → Option (List ℕ × List ℕ)
setting_of [] value = None
setting_of (byte ∷ name) value = Some (byte ∷ name, value)

-- the name and the value of `NAME=VALUE`, without blanks at the ends of each
abbrev pub setting_in : List ℕ → Option (List ℕ × List ℕ)
setting_in text = option_and_then (λ cut. setting_of (trim cut.0) (trim cut.1)) (cut_once 61 text)

-- a line that gives an event once
abbrev pub gives : MachineEvent → ScriptLine WideTurn
gives event = once (Plain (Event event))

-- a line that sets a name of a channel, or the global
abbrev pub assigns : Option ℕ → List ℕ × List ℕ → ScriptLine WideTurn
assigns channel setting = gives (Assign channel setting.0 setting.1)

-- `let CH NAME=VALUE`, given the text after `let`
abbrev pub let_line : List ℕ → Option (ScriptLine WideTurn)
let_line text =
    option_and_then (λ channel. option_map (assigns (Some channel)) (setting_in (cut_word text).1)) (channel_in (cut_word text).0)

-- `global NAME=VALUE`, given the text after `global`
abbrev pub global_line : List ℕ → Option (ScriptLine WideTurn)
global_line text = option_map (assigns None) (setting_in text)

-- `clock WEEKDAY YYYY-MM-DD HH:MM`, given the moment after `clock`: it becomes the value of the global `CLOCK`
abbrev pub clock_line : List ℕ → Option (ScriptLine WideTurn)
clock_line text = if is_some (moment_of text) then Some (assigns None (codes "CLOCK", text)) else None

-- `go CH`, given the words after `go`: what the channel waits for comes to its end
abbrev pub go_line : List (List ℕ) → Option (ScriptLine WideTurn)
go_line words = option_map (λ channel. gives (Timeout channel)) (one_channel words)

-- `pass CH`, given the words after `pass`
abbrev pub pass_line : List (List ℕ) → Option (ScriptLine WideTurn)
pass_line words = option_map (λ channel. once (Pass channel)) (one_channel words)

-- the priority that a word writes: a number from 1 to the greatest priority
unfoldable pub priority_in : List ℕ → Option ℕ
priority_in word = option_and_then (λ number. if nat_le 1 number then Some number else None) (number_within most_priority word)

-- a place, given its words
abbrev pub place_by : List ℕ → List ℕ → ℕ → Place
place_by context exten priority = record { context = context; exten = exten; priority = priority }

-- a line that sends a channel to a place
abbrev pub redirects : List ℕ → List ℕ → List ℕ → Option ℕ → Option (ScriptLine WideTurn)
redirects channel context exten priority =
    option_and_then (λ number. option_map (λ at. gives (Redirect number (place_by context exten at))) priority) (channel_in channel)

-- `redirect CH CONTEXT EXTEN [PRIORITY]`, given the words after `redirect`; without a priority it is 1
abbrev pub redirect_line : List (List ℕ) → Option (ScriptLine WideTurn)
redirect_line [] = None
redirect_line (channel ∷ []) = None
redirect_line (channel ∷ context ∷ []) = None
redirect_line (channel ∷ context ∷ exten ∷ []) = redirects channel context exten (Some 1)
redirect_line (channel ∷ context ∷ exten ∷ priority ∷ []) = redirects channel context exten (priority_in priority)
redirect_line (channel ∷ context ∷ exten ∷ priority ∷ more ∷ words) = None

-- a line that says of a function that its unwritten cells are empty
abbrev pub assumes : List ℕ → ScriptLine WideTurn
assumes function = assigns None (assumed_name function, codes "1")

-- `assume NAME..`, given the words after `assume`: a line for each function
abbrev pub assume_lines : List (List ℕ) → Option (List (ScriptLine WideTurn))
assume_lines [] = None
assume_lines (name ∷ names) = Some (map assumes (name ∷ names))

-- whether a line with this first word belongs to no plain script
abbrev pub is_own : List ℕ → Bool
is_own word =
    same_text word (codes "let") || (same_text word (codes "global") || (same_text word (codes "clock")
    || (same_text word (codes "go") || (same_text word (codes "redirect") || (same_text word (codes "pass")
    || same_text word (codes "assume"))))))

-- the meaning of such a line, unless it is an `assume` line, given the text after its first word; None if the line is faulty
abbrev pub own_line : List ℕ → List ℕ → Option (ScriptLine WideTurn)
own_line word text =
    if same_text word (codes "let") then let_line text
    else if same_text word (codes "global") then global_line text
    else if same_text word (codes "clock") then clock_line text
    else if same_text word (codes "go") then go_line (words_of text)
    else if same_text word (codes "redirect") then redirect_line (words_of text)
    else pass_line (words_of text)

-- the meaning of such a line, given the text after its first word; None if the line is faulty
abbrev pub own_lines : List ℕ → List ℕ → Option (List (ScriptLine WideTurn))
own_lines word text =
    if same_text word (codes "assume") then assume_lines (words_of text) else option_map (λ line. line ∷ []) (own_line word text)

-- the channel that an event steps
abbrev pub stepped_channel : MachineEvent → Option ℕ
stepped_channel (Step channel) = Some channel
stepped_channel (Start context exten caller) = None
stepped_channel (Digit channel digit) = None
stepped_channel (Timeout channel) = None
stepped_channel (Poll channel) = None
stepped_channel (Hangup channel) = None
stepped_channel (DialResult channel status) = None
stepped_channel (Offer queue) = None
stepped_channel (Answer agent) = None
stepped_channel (Decline agent) = None
stepped_channel (AgentDone agent) = None
stepped_channel (Reload text) = None
stepped_channel (Assign channel name value) = None
stepped_channel (Redirect channel place) = None

-- the channel that a turn steps
abbrev pub stepped_by : Turn → Option ℕ
stepped_by (Event event) = stepped_channel event
stepped_by (Show channel name) = None

-- a line of a plain script, given the channel that its turn steps: the steps after the first are further steps
abbrev pub wide_lines : Option ℕ → ScriptLine Turn → List (ScriptLine WideTurn)
wide_lines None line = (record { turn = Plain line.turn; count = line.count }) ∷ []
wide_lines (Some channel) line =
    (record { turn = Plain line.turn; count = min 1 line.count }) ∷ (record { turn = Further channel; count = line.count - 1 }) ∷ []

-- a line of a plain script in a script with facts
abbrev pub wide_lines_of : ScriptLine Turn → List (ScriptLine WideTurn)
wide_lines_of line = wide_lines (stepped_by line.turn) line

-- the result of a call to devices that a word names in no plain script
abbrev pub further_status_in : List ℕ → Option DialStatus
further_status_in word =
    if same_text word (status_name statuses.DontCall) then Some statuses.DontCall
    else if same_text word (status_name statuses.Torture) then Some statuses.Torture
    else if same_text word (status_name statuses.InvalidArgs) then Some statuses.InvalidArgs
    else None

-- `result CH STATUS` with such a result, given the words after `result`
abbrev pub further_result : List (List ℕ) → Option (ScriptLine WideTurn)
further_result [] = None
further_result (channel ∷ []) = None
further_result (channel ∷ status ∷ []) =
    option_and_then (λ number. option_map (λ found. gives (DialResult number found)) (further_status_in status)) (channel_in channel)
further_result (channel ∷ status ∷ more ∷ words) = None

-- the meaning of a line that is faulty in a plain script, given its first word and the text after it
abbrev pub further_line : List ℕ → List ℕ → Option (ScriptLine WideTurn)
further_line word text = if same_text word (codes "result") then further_result (words_of text) else None

-- the meaning of a line that a plain script may have: what it means there, or the further line
abbrev pub plain_or : Option (List (ScriptLine Turn)) → Option (ScriptLine WideTurn) → Option (List (ScriptLine WideTurn))
plain_or None further = option_map (λ line. line ∷ []) further
plain_or (Some lines) further = Some (flat_map wide_lines_of lines)

-- the meaning of a line, given its first word and the text after it
abbrev pub line_by : Option (List ℕ) → List ℕ → List ℕ × List ℕ → Option (List (ScriptLine WideTurn))
line_by second_plan part cut =
    if is_own cut.0 then own_lines cut.0 cut.1
    else plain_or (line_in second_plan part) (further_line cut.0 cut.1)

-- the meaning of a line, with an optional second dialplan: empty if it is skipped; None if the line is faulty
unfoldable pub stands_for : Option (List ℕ) → List ℕ → Option (List (ScriptLine WideTurn))
stands_for second_plan part = line_by second_plan part (cut_word (trim part))

-- the lines of a script, with an optional second dialplan; or the fault of the first faulty line
abbrev pub wide_script_of : Option (List ℕ) → List ℕ → Result (List (ScriptLine WideTurn)) PbxFault
wide_script_of second_plan text = script_by (stands_for second_plan) text
