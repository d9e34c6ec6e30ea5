-- What came of a test, shown in place of what it expected.
use Rattle.std.specs.Prelude.{ℕ, ◌==◌, List, [], ◌++◌, Option, Some, None, codes, decimal, unwrap_or, if◌then◌else◌}
use Rattle.std.specs.List.{find, flat_map}
use Rattle.std.specs.Option.{option_map_or}
use Rattle.dp_pattern.specs.Spelling.{spelling}
use Rattle.dp_queue.specs.Agents.{rings_for}
use Rattle.dp_queue.specs.Joining.{waiting_count}
use Rattle.dp_queue.specs.declared.agent.Agent.{Agent}
use Rattle.dp_machine.specs.World.{World}
use Rattle.dp_machine.specs.declared.refusal.Refusal.{Refusal}
use Rattle.dp_machine.specs.declared.unknown.Unknown.{Unknown}
use Rattle.dp_commands.specs.Trace.{place_text, refusal_text, state_text}
use Rattle.dp_wide_runs.specs.Turns.{unknown_at}
use Rattle.dp_tests.specs.declared.expectation.LineClaim.{LineClaim}
use Rattle.dp_tests.specs.declared.expectation.LineClaim.TheVariants as claims
use Rattle.dp_tests.specs.declared.file.Act.{Act}
use Rattle.dp_tests.specs.declared.file.Act.TheVariants as acts
use Rattle.dp_tests.specs.declared.file.TestLine.{TestLine}
use Rattle.dp_test_runs.specs.Verdicts.{last_of, unknown_state, value_of}
use Rattle.dp_test_runs.specs.declared.course.Course.{Course}
use Rattle.dp_test_runs.specs.declared.failure.Failure.{Failure}
use Rattle.dp_test_runs.specs.declared.failure.FailureKind.{FailureKind}
use Rattle.dp_test_runs.specs.declared.failure.FailureKind.TheVariants as kinds
use Rattle.dp_test_runs.specs.declared.ran_entries.RanEntry.{RanEntry}

-- the state of a channel: what stops it, if it is stopped
abbrev pub state_by : World → ℕ → Option Unknown → List ℕ
state_by w channel None = state_text w channel
state_by w channel (Some what) = unknown_state what

abbrev pub state_shown : World → ℕ → List ℕ
state_shown w channel = state_by w channel (unknown_at w channel)

-- an entry that ran, `APP(ARGS)`
abbrev pub call_shown : RanEntry → List ℕ
call_shown ran = ran.application ++ codes "(" ++ ran.arguments ++ codes ")"

-- the place of an entry that ran, `CONTEXT,NAME,PRIORITY`
abbrev pub place_shown : RanEntry → List ℕ
place_shown ran = place_text ran.context (spelling ran.name) ran.priority

-- what is shown of the last entry that ran
abbrev pub last_shown : (RanEntry → List ℕ) → Option RanEntry → List ℕ
last_shown show last = option_map_or show last (codes "nothing")

-- the value of a name in a channel or, without one, of a global
abbrev pub value_shown : World → Option ℕ → List ℕ → List ℕ
value_shown w channel name = unwrap_or (value_of w channel name) (codes "unknown")

-- the name of an agent that rings for a channel, with a blank before it
abbrev pub agent_shown : ℕ → Agent → List ℕ
agent_shown channel agent = if rings_for channel agent.state then codes " " ++ agent.name else []

-- the agents that ring for the channel of the last offer
abbrev pub ringing_shown : List Agent → Option ℕ → List ℕ
ringing_shown agents offered = codes "rings" ++ option_map_or (λ channel. flat_map (agent_shown channel) agents) offered []

-- why the last event line was refused
abbrev pub refusal_shown : Option Refusal → List ℕ
refusal_shown refusal = option_map_or refusal_text refusal (codes "taken")

-- what a course has in place of a claim
abbrev pub claim_shown : Course → LineClaim → List ℕ
claim_shown course (claims.State channel text) = state_shown course.machine channel
claim_shown course (claims.Ran channel call) = last_shown call_shown (last_of channel course.ran)
claim_shown course (claims.Passed channel call) = last_shown call_shown (last_of channel course.ran)
claim_shown course (claims.At channel place) = last_shown place_shown (last_of channel course.ran)
claim_shown course (claims.Value channel name value) = value_shown course.machine channel name
claim_shown course (claims.Rings agents) = ringing_shown course.machine.shared.queues.agents course.offered
claim_shown course (claims.Waiting queue count) = decimal (waiting_count course.machine.shared.queues.queues queue)
claim_shown course (claims.Refused refusal) = refusal_shown course.refusal

-- what a course has in place of what a line expects
abbrev pub act_shown : Course → Act → List ℕ
act_shown course (acts.Turns turns) = []
act_shown course (acts.Reload name) = []
act_shown course (acts.Expect expectation) = claim_shown course expectation.claim

-- the same for the line with a number
abbrev pub line_shown : Course → List TestLine → ℕ → List ℕ
line_shown course lines number = option_map_or (λ line. act_shown course line.act) (find (λ line. line.line == number) lines) []

-- what a course has in place of what was expected where these lines failed
abbrev pub got_by : Course → List TestLine → ℕ → FailureKind → List ℕ
got_by course lines line kinds.Unmet = line_shown course lines line
got_by course lines line (kinds.Refused refusal) = refusal_text refusal
got_by course lines line kinds.Endless = codes "more than 10000 steps"
got_by course lines line (kinds.LeftUnknown channel) = state_shown course.machine channel

abbrev pub got_of : Course → List TestLine → Failure → List ℕ
got_of course lines failure = got_by course lines failure.line failure.kind

-- the same of a test that may have passed
abbrev pub got_text : Course → List TestLine → Option Failure → List ℕ
got_text course lines failure = option_map_or (got_of course lines) failure []
