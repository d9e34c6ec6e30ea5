-- Whether what a test expects comes true: each claim about the course of the test is true or false, or it is about a value that is unknown.
use Rattle.std.specs.Prelude.{ℕ, Bool, true, false, not, ◌&&◌, ◌||◌, ◌==◌, List, [], ◌∷◌, ◌++◌, take, drop, length, fold, Option, Some, None, codes, if◌then◌else◌}
use Rattle.std.specs.List.{list_all, list_any}
use Rattle.std.specs.Option.{option_map, option_map_or}
use Rattle.std.specs.Str.{byte}
use Rattle.dp_conf.specs.Cut.{cut_once}
use Rattle.dp_conf.specs.Words.{same_text, same_word}
use Rattle.dp_plan.specs.Extensions.{same_name}
use Rattle.dp_queue.specs.Agents.{rings_for}
use Rattle.dp_queue.specs.Joining.{waiting_count}
use Rattle.dp_queue.specs.declared.agent.Agent.{Agent}
use Rattle.dp_vars.specs.Variables.{value_or_empty}
use Rattle.dp_machine.specs.Codes.{refusal_code}
use Rattle.dp_machine.specs.Unknown.{unknown_in_text}
use Rattle.dp_machine.specs.World.{World, text_in}
use Rattle.dp_machine.specs.declared.refusal.Refusal.{Refusal}
use Rattle.dp_machine.specs.declared.unknown.Unknown.{Unknown}
use Rattle.dp_commands.specs.Trace.{state_text}
use Rattle.dp_wide.specs.CellValues.{assumed_name}
use Rattle.dp_wide.specs.Functions.{wide_functions}
use Rattle.dp_wide.specs.Names.{is_given_by_asterisk, is_status}
use Rattle.dp_wide_runs.specs.Turns.{unknown_at, unknown_name}
use Rattle.dp_tests.specs.declared.expectation.ExpectedCall.{ExpectedCall}
use Rattle.dp_tests.specs.declared.expectation.LineClaim.{LineClaim}
use Rattle.dp_tests.specs.declared.expectation.LineClaim.TheVariants.{State, Ran, Passed, At, Value, Rings, Waiting, Refused}
use Rattle.dp_tests.specs.declared.expectation.ExpectedPlace.{ExpectedPlace}
use Rattle.dp_tests.specs.declared.expectation.Expectation.{Expectation}
use Rattle.dp_test_runs.specs.declared.course.Course.{Course}
use Rattle.dp_test_runs.specs.declared.ran_entries.RanEntry.{RanEntry}

-- ---- states

-- whether a text ends, or begins with a blank or a comma
abbrev pub is_parted : List ℕ → Bool
is_parted [] = true
is_parted (byte ∷ bytes) = byte == 32 || byte == 44

-- whether a state begins with a text, and ends there or goes on with a blank or a comma
abbrev pub begins_state : List ℕ → List ℕ → Bool
begins_state text state = same_text (take (length text) state) text && is_parted (drop (length text) state)

-- the state of a channel that is stopped, `unknown WHAT`
abbrev pub unknown_state : Unknown → List ℕ
unknown_state what = codes "unknown " ++ unknown_name what

-- whether a channel is stopped, and its state as a stopped one begins with a text
abbrev pub is_stopped_so : List ℕ → Option Unknown → Bool
is_stopped_so text unknown = option_map_or (λ what. begins_state text (unknown_state what)) unknown false

-- whether the state of a channel begins with a text
abbrev pub shows : World → ℕ → List ℕ → Bool
shows w channel text = begins_state text (state_text w channel) || is_stopped_so text (unknown_at w channel)

-- ---- what ran

-- whether an entry that ran has these expanded arguments, if they are given
abbrev pub has_arguments : Option (List ℕ) → List ℕ → Bool
has_arguments arguments ran = option_map_or (λ text. same_text ran text) arguments true

-- whether an entry that ran is this call
abbrev pub is_call : ExpectedCall → RanEntry → Bool
is_call call ran = same_word ran.application call.application && has_arguments call.arguments ran.arguments

-- whether an entry that ran has this priority, if it is given
abbrev pub has_priority : Option ℕ → ℕ → Bool
has_priority priority ran = option_map_or (λ number. ran == number) priority true

-- whether an entry that ran stands at a place; the name of the place counts by its meaning
abbrev pub stands_at : ExpectedPlace → RanEntry → Bool
stands_at place ran =
    same_text ran.context place.context && (same_name ran.name place.name && has_priority place.priority ran.priority)

-- the later of two entries that ran, if it is of this channel
abbrev pub later_of : ℕ → Option RanEntry → RanEntry → Option RanEntry
later_of channel last ran = if ran.channel == channel then Some ran else last

-- the last entry that a channel ran
abbrev pub last_of : ℕ → List RanEntry → Option RanEntry
last_of channel ran = fold (later_of channel) None ran

-- whether a channel ran this call
abbrev pub has_passed : ℕ → ExpectedCall → List RanEntry → Bool
has_passed channel call ran = list_any (λ entry. entry.channel == channel && is_call call entry) ran

-- ---- values

-- the group that reads a name in a channel, `${NAME}`
abbrev pub group_of : List ℕ → List ℕ
group_of name = codes "${" ++ name ++ codes "}"

-- a value, unless something in it is unknown
abbrev pub unless_unknown : Option (List ℕ) → Option (List ℕ) → Option (List ℕ)
unless_unknown None value = value
unless_unknown (Some group) value = None

-- the value of a name in a channel, if there is such a channel and the value is known: what the group of the name expands to
abbrev pub known_value : World → ℕ → List ℕ → Option (List ℕ)
known_value w channel name =
    unless_unknown (unknown_in_text wide_functions w channel (group_of name)) (text_in wide_functions w channel (group_of name))

abbrev pub is_empty : List ℕ → Bool
is_empty text = length text == 0

-- the value of a global; one that is not set is empty
abbrev pub global_in : World → List ℕ → List ℕ
global_in w name = value_or_empty (w.shared.globals ∷ []) name

-- whether a script has said that the unwritten cells of a function are empty
abbrev pub is_assumed : World → List ℕ → Bool
is_assumed w function = not (is_empty (global_in w (assumed_name function)))

-- whether an empty global may have a value that is unknown, given its name cut at the first `(`: a cell may, unless the script has said that
-- it is empty, and so may a name with a value from Asterisk
abbrev pub may_be_outside : World → List ℕ → Option (List ℕ × List ℕ) → Bool
may_be_outside w name None = is_status name || is_given_by_asterisk name
may_be_outside w name (Some cut) = not (is_assumed w cut.0)

-- whether the value of a global is known
abbrev pub knows_global : World → List ℕ → Bool
knows_global w name = not (is_empty (global_in w name)) || not (may_be_outside w name (cut_once (byte "(") name))

-- the value of a global, if it is known
abbrev pub known_global : World → List ℕ → Option (List ℕ)
known_global w name = if knows_global w name then Some (global_in w name) else None

-- the value of a name in a channel or, without one, of a global, if it is known
abbrev pub value_of : World → Option ℕ → List ℕ → Option (List ℕ)
value_of w None name = known_global w name
value_of w (Some channel) name = known_value w channel name

-- whether a name has a value in a channel or, without one, among the globals; None if the value is unknown
abbrev pub has_value : World → Option ℕ → List ℕ → List ℕ → Option Bool
has_value w channel name value = option_map (λ held. same_text held value) (value_of w channel name)

-- ---- queues

-- whether the agent with a name rings for a channel
abbrev pub rings : List Agent → ℕ → List ℕ → Bool
rings agents channel name = list_any (λ agent. rings_for channel agent.state && same_text agent.name name) agents

-- whether an agent is one of those with these names, if it rings for a channel
abbrev pub is_called_if_rings : ℕ → List (List ℕ) → Agent → Bool
is_called_if_rings channel names agent = not (rings_for channel agent.state) || list_any (same_text agent.name) names

-- whether exactly the agents with these names ring for a channel
abbrev pub exactly_ring : List Agent → ℕ → List (List ℕ) → Bool
exactly_ring agents channel names =
    list_all (rings agents channel) names && list_all (is_called_if_rings channel names) agents

-- the same for the channel of the last offer; without an offer nobody rings
abbrev pub ring_after : List Agent → Option ℕ → List (List ℕ) → Bool
ring_after agents offered names = option_map_or (λ channel. exactly_ring agents channel names) offered false

-- ---- refusals

-- whether a refusal is the one that is claimed, if one is
abbrev pub is_refusal : Option Refusal → Refusal → Bool
is_refusal claimed refusal = option_map_or (λ other. refusal_code refusal == refusal_code other) claimed true

-- whether the last event line was refused so
abbrev pub was_refused : Option Refusal → Option Refusal → Bool
was_refused claimed refusal = option_map_or (is_refusal claimed) refusal false

-- ---- claims

-- whether a claim is true; None if it is about a value that is unknown. The machine shows no global that a channel does not read, so a claim
-- about a global is unknown
abbrev pub truth_of : Course → LineClaim → Option Bool
truth_of course (State channel text) = Some (shows course.machine channel text)
truth_of course (Ran channel call) = Some (option_map_or (is_call call) (last_of channel course.ran) false)
truth_of course (Passed channel call) = Some (has_passed channel call course.ran)
truth_of course (At channel place) = Some (option_map_or (stands_at place) (last_of channel course.ran) false)
truth_of course (Value channel name value) = has_value course.machine channel name value
truth_of course (Rings agents) = Some (ring_after course.machine.shared.queues.agents course.offered agents)
truth_of course (Waiting queue count) = Some (waiting_count course.machine.shared.queues.queues queue == count)
truth_of course (Refused refusal) = Some (was_refused refusal course.refusal)

-- whether an expectation of a claim that is true or not comes true; one of an unknown value never does
abbrev pub comes_true : Bool → Option Bool → Bool
comes_true is_negated None = false
comes_true is_negated (Some truth) = if is_negated then not truth else truth

-- whether an expectation comes true
abbrev pub is_met : Course → Expectation → Bool
is_met course expectation = comes_true expectation.is_negated (truth_of course expectation.claim)
