-- Events of channels that wait and of agents, whose replies are computed from the definitions themselves.
use Rattle.std.proofs.Common.{◌≡◌, ℕ, true, false, List, [], ◌∷◌, None, refl}
use Rattle.std.specs.FinMap.{empty}
use Rattle.std.specs.Prelude.{codes}
use Rattle.std.specs.Str.{byte}
use Rattle.dp_lookup.specs.FoundEntry.{found_entry, goes_on_more}
use Rattle.dp_lookup.specs.SearchOrder.{visit}
use Rattle.dp_pattern.specs.Name.{Plain}
use Rattle.dp_plan.specs.Plan.{PlanOf}
use Rattle.dp_plan.specs.declared.entry.Entry.{Entry}
use Rattle.dp_queue.specs.Queues.{QueueOf, QueuesOf}
use Rattle.dp_queue.specs.declared.agent.Agent.{Agent}
use Rattle.dp_queue.specs.declared.agent.AgentState.{AgentState}
use Rattle.dp_queue.specs.declared.agent.AgentState.TheVariants.{Idle, Ringing, Talking as Talks}
use Rattle.dp_queue.specs.declared.member.Member.{Member}
use Rattle.dp_queue.specs.declared.settings.EmptyRule.{EmptyRule}
use Rattle.dp_queue.specs.declared.settings.EmptyRule.TheVariants.{Yes, No}
use Rattle.dp_queue.specs.declared.settings.Strategy.TheVariants.{RingAll}
use Rattle.dp_vars.specs.Stores.{nothing, set}
use Rattle.dp_app.specs.Tables.{no_meanings}
use Rattle.dp_app.specs.declared.phase.Phase.{Phase}
use Rattle.dp_app.specs.declared.phase.Phase.TheVariants.{Ready, Digits, Pause, Queued, Talking, Ended as over}
use Rattle.dp_app.specs.declared.place.Place.{Place}
use Rattle.dp_machine.specs.Channels.{hung_up}
use Rattle.dp_machine.specs.Events.{agent_done, serve_answer, serve_decline, digit_row, event_row, hang_up_row, serve_offer, poll_row, timeout_row}
use Rattle.dp_machine.specs.Found.{could_go_on, is_found}
use Rattle.dp_machine.specs.World.{World, world_of}
use Rattle.dp_machine.specs.declared.channel.Channel.{Channel}
use Rattle.dp_machine.specs.declared.event.Event.{Event}
use Rattle.dp_machine.specs.declared.event.Event.TheVariants.{Digit, Timeout, Poll, Hangup, Offer, Answer, Decline, AgentDone}
use Rattle.dp_machine.specs.declared.refusal.Refusal.TheVariants.{NoChannel, NotWaiting, NoTimer, NoQueue, NobodyWaiting, NoMember, NotRinging, NotTalking, Ended, BadDigit}
use Rattle.dp_machine.specs.declared.reply.Reply.{Reply}
use Rattle.dp_machine.specs.declared.reply.Reply.TheVariants.{Offered, Done, Refused}

-- an entry of a plain name
abbrev entry : List ℕ → ℕ → Entry
entry name priority = record { name = Plain name; priority = priority; label = None; application = codes "NoOp"; arguments = [] }

-- three contexts: `main` has the extension `t`, the digits of a queue lead to `out`, and `end` has the extension `h`
abbrev plan : PlanOf
plan = record {
  globals = [];
  contexts = (record {
    name = codes "main";
    entries = entry (codes "s") 1 ∷ entry (codes "s") 2 ∷ entry (codes "12") 1 ∷ entry (codes "t") 1 ∷ [];
    includes = [];
  }) ∷ (record {
    name = codes "out";
    entries = entry (codes "5") 1 ∷ [];
    includes = [];
  }) ∷ (record {
    name = codes "end";
    entries = entry (codes "s") 1 ∷ entry (codes "h") 1 ∷ [];
    includes = [];
  }) ∷ [];
}

-- a place of a context, at an extension and a priority
abbrev at : List ℕ → List ℕ → ℕ → Place
at context exten priority = record { context = context; exten = exten; priority = priority }

-- a place of `s` in `main`
abbrev main : ℕ → Place
main priority = at (codes "main") (codes "s") priority

-- a channel at a place and in a phase, without variables
abbrev channel : Place → Phase → Channel
channel place phase = record { place = place; phase = phase; is_closing = false; caller = codes "7"; store = nothing }

-- the channel with a status of its queue
abbrev with_queue_status_of : List ℕ → Channel → Channel
with_queue_status_of status c = record c { store = set nothing (codes "QUEUESTATUS") status }

-- a member whose agent has a number, and which has finished this number of calls
abbrev member : ℕ → ℕ → Member
member agent calls = record { agent = agent; penalty = 0; is_paused = false; is_dynamic = false; calls = calls; last = calls }

-- the queue `q`, whose digits lead to `out`, given its rule of leaving, its members and the calls that wait
abbrev queue : EmptyRule → List Member → List ℕ → QueueOf
queue rule members waiting = record {
  name = codes "q";
  settings = record { strategy = RingAll; maxlen = 0; joinempty = Yes; leavewhenempty = rule; context = codes "out" };
  members = members;
  waiting = waiting;
  last = None;
}

abbrev agent : List ℕ → AgentState → Agent
agent name state = record { name = name; state = state }

-- the queue `q`, and its agents `Line/1` and `Line/2` in these states, given the calls that wait
abbrev queues : AgentState → AgentState → List ℕ → QueuesOf
queues first second waiting = record {
  queues = queue No (member 0 0 ∷ member 1 0 ∷ []) waiting ∷ [];
  agents = agent (codes "Line/1") first ∷ agent (codes "Line/2") second ∷ [];
  finished = 0;
}

-- the queue without a call, and with the channel's call
abbrev none_waits : QueuesOf
none_waits = queues Idle Idle []

abbrev one_waits : QueuesOf
one_waits = queues Idle Idle (1 ∷ [])

-- the queue after a finished call of `Line/1`
abbrev one_finished : QueuesOf
one_finished = record {
  queues = queue No (member 0 1 ∷ member 1 0 ∷ []) [] ∷ [];
  agents = agent (codes "Line/1") Idle ∷ agent (codes "Line/2") Idle ∷ [];
  finished = 1;
}

-- a world with one channel
abbrev world : Channel → QueuesOf → World
world c queues = world_of plan (c ∷ []) (record { globals = empty; queues = queues })

-- the world after an event, and the reply
abbrev after : Channel → QueuesOf → Event → World × Reply
after c queues event = event_row no_meanings (world c queues) event

-- ---- digits

-- another digit may make it `12`
digit-goes_on : after (channel (main 1) (Digits [] true)) none_waits (Digit 1 (byte "1")) ≡
    (world (channel (main 1) (Digits (codes "1") true)) none_waits, Done)
unfolding digit_row could_go_on goes_on_more visit
digit-goes_on = refl

digit-leads : after (channel (main 1) (Digits (codes "1") false)) none_waits (Digit 1 (byte "2")) ≡
    (world (channel (at (codes "main") (codes "12") 1) Ready) none_waits, Done)
unfolding digit_row could_go_on goes_on_more visit
digit-leads = refl

-- digits that lead nowhere are left to the next step
digit-leads_nowhere : after (channel (main 1) (Digits (codes "1") false)) none_waits (Digit 1 (byte "*")) ≡
    (world (channel (at (codes "main") (codes "1*") 1) Ready) none_waits, Done)
unfolding digit_row could_go_on goes_on_more visit
digit-leads_nowhere = refl

digit-pause : after (channel (main 1) Pause) none_waits (Digit 1 (byte "D")) ≡ (world (channel (main 1) Pause) none_waits, Done)
unfolding digit_row
digit-pause = refl

-- a digit that leads out of the queue does not change the status
digit-way_out : after (channel (main 1) (Queued 0 true false)) (queues (Ringing 0 1) Idle (1 ∷ [])) (Digit 1 (byte "5")) ≡
    (world (channel (at (codes "out") (codes "5") 1) Ready) none_waits, Done)
unfolding digit_row is_found found_entry visit
digit-way_out = refl

digit-no_way_out : after (channel (main 1) (Queued 0 true false)) one_waits (Digit 1 (byte "6")) ≡
    (world (channel (main 1) (Queued 0 true false)) one_waits, Done)
unfolding digit_row is_found found_entry visit
digit-no_way_out = refl

digit-ready : after (channel (main 1) Ready) none_waits (Digit 1 (byte "5")) ≡ (world (channel (main 1) Ready) none_waits, Refused NotWaiting)
unfolding digit_row
digit-ready = refl

digit-talking : after (channel (main 1) (Talking 0 0 true)) (queues (Talks 0 1) Idle []) (Digit 1 (byte "5")) ≡
    (world (channel (main 1) (Talking 0 0 true)) (queues (Talks 0 1) Idle []), Refused NotWaiting)
unfolding digit_row
digit-talking = refl

digit-bad : after (channel (main 1) Pause) none_waits (Digit 1 (byte "E")) ≡ (world (channel (main 1) Pause) none_waits, Refused BadDigit)
unfolding digit_row
digit-bad = refl

-- that the call is over is reported first
digit-over : after (channel (main 1) over) none_waits (Digit 1 (byte "E")) ≡ (world (channel (main 1) over) none_waits, Refused Ended)
unfolding digit_row
digit-over = refl

digit-no_channel : after (channel (main 1) Pause) none_waits (Digit 2 (byte "E")) ≡ (world (channel (main 1) Pause) none_waits, Refused NoChannel)
digit-no_channel = refl

-- ---- time-outs

timeout-digits : after (channel (main 1) (Digits (codes "1") true)) none_waits (Timeout 1) ≡
    (world (channel (at (codes "main") (codes "1") 1) Ready) none_waits, Done)
unfolding timeout_row
timeout-digits = refl

-- `Background` goes on whether or not the next priority is found
timeout-background : after (channel (main 2) (Digits [] true)) none_waits (Timeout 1) ≡ (world (channel (main 3) Ready) none_waits, Done)
unfolding timeout_row
timeout-background = refl

-- `WaitExten` goes on if the next priority is found
timeout-next : after (channel (main 1) (Digits [] false)) none_waits (Timeout 1) ≡ (world (channel (main 2) Ready) none_waits, Done)
unfolding timeout_row is_found found_entry visit
timeout-next = refl

timeout-t : after (channel (main 2) (Digits [] false)) none_waits (Timeout 1) ≡
    (world (channel (at (codes "main") (codes "t") 1) Ready) none_waits, Done)
unfolding timeout_row is_found found_entry visit
timeout-t = refl

timeout-no_t : after (channel (at (codes "out") (codes "5") 1) (Digits [] false)) none_waits (Timeout 1) ≡
    (world (channel (at (codes "out") (codes "5") 1) over) none_waits, Done)
unfolding timeout_row hung_up is_found found_entry visit
timeout-no_t = refl

timeout-pause : after (channel (main 2) Pause) none_waits (Timeout 1) ≡ (world (channel (main 3) Ready) none_waits, Done)
unfolding timeout_row
timeout-pause = refl

timeout-queue : after (channel (main 1) (Queued 0 false true)) (queues Idle (Ringing 0 1) (1 ∷ [])) (Timeout 1) ≡
    (world (with_queue_status_of (codes "TIMEOUT") (channel (main 2) Ready)) none_waits, Done)
unfolding timeout_row
timeout-queue = refl

timeout-no_timer : after (channel (main 1) (Queued 0 false false)) one_waits (Timeout 1) ≡
    (world (channel (main 1) (Queued 0 false false)) one_waits, Refused NoTimer)
unfolding timeout_row
timeout-no_timer = refl

timeout-ready : after (channel (main 1) Ready) none_waits (Timeout 1) ≡ (world (channel (main 1) Ready) none_waits, Refused NotWaiting)
unfolding timeout_row
timeout-ready = refl

timeout-over : after (channel (main 1) over) none_waits (Timeout 1) ≡ (world (channel (main 1) over) none_waits, Refused Ended)
unfolding timeout_row
timeout-over = refl

-- ---- polls

-- the queue with the rule to leave it if no member is unpaused, and without members
abbrev too_empty : List ℕ → QueuesOf
too_empty waiting = record { queues = queue Yes [] waiting ∷ []; agents = []; finished = 0 }

poll-too_empty : after (channel (main 1) (Queued 0 true true)) (too_empty (1 ∷ [])) (Poll 1) ≡
    (world (with_queue_status_of (codes "LEAVEEMPTY") (channel (main 2) Ready)) (too_empty []), Done)
unfolding poll_row
poll-too_empty = refl

poll-stays : after (channel (main 1) (Queued 0 true true)) one_waits (Poll 1) ≡ (world (channel (main 1) (Queued 0 true true)) one_waits, Done)
unfolding poll_row
poll-stays = refl

poll-pause : after (channel (main 1) Pause) none_waits (Poll 1) ≡ (world (channel (main 1) Pause) none_waits, Refused NotWaiting)
unfolding poll_row
poll-pause = refl

-- ---- hang-ups

-- a place of `s` in `end`
abbrev last : Place
last = at (codes "end") (codes "s") 1

-- a channel that runs the extension `h` of `end`
abbrev closing : Phase → Channel
closing phase = record (channel (at (codes "end") (codes "h") 1) phase) { is_closing = true }

hangup-no_h : after (channel (main 1) Ready) none_waits (Hangup 1) ≡ (world (channel (main 1) over) none_waits, Done)
unfolding hang_up_row hung_up is_found found_entry visit
hangup-no_h = refl

hangup-h : after (channel last (Digits [] true)) none_waits (Hangup 1) ≡ (world (closing Ready) none_waits, Done)
unfolding hang_up_row hung_up is_found found_entry visit
hangup-h = refl

-- `h` runs once
hangup-closing : after (closing Ready) none_waits (Hangup 1) ≡ (world (closing over) none_waits, Done)
unfolding hang_up_row hung_up
hangup-closing = refl

-- the agents that ring for the channel become idle
hangup-queue : after (channel last (Queued 0 true false)) (queues (Ringing 0 1) (Ringing 0 1) (1 ∷ [])) (Hangup 1) ≡
    (world (closing Ready) none_waits, Done)
unfolding hang_up_row hung_up is_found found_entry visit
hangup-queue = refl

-- the agent has finished one more call
hangup-talk : after (channel (main 1) (Talking 0 0 true)) (queues (Talks 0 1) Idle []) (Hangup 1) ≡
    (world (channel (main 1) over) one_finished, Done)
unfolding hang_up_row hung_up is_found found_entry visit
hangup-talk = refl

hangup-over : after (channel (main 1) over) none_waits (Hangup 1) ≡ (world (channel (main 1) over) none_waits, Refused Ended)
unfolding hang_up_row
hangup-over = refl

-- ---- agents

-- a channel that waits in the queue, and goes on after its talk
abbrev waiting : Channel
waiting = channel (main 1) (Queued 0 true false)

-- a name of a queue is read in any ASCII case
offer-both : after waiting one_waits (Offer (codes "Q")) ≡ (world waiting (queues (Ringing 0 1) (Ringing 0 1) (1 ∷ [])), Offered 1 2)
unfolding serve_offer
offer-both = refl

offer-no_queue : after waiting one_waits (Offer (codes "z")) ≡ (world waiting one_waits, Refused NoQueue)
unfolding serve_offer
offer-no_queue = refl

offer-nobody_waits : after waiting (queues (Ringing 0 1) Idle (1 ∷ [])) (Offer (codes "q")) ≡
    (world waiting (queues (Ringing 0 1) Idle (1 ∷ [])), Refused NobodyWaiting)
unfolding serve_offer
offer-nobody_waits = refl

offer-no_member : after waiting (too_empty (1 ∷ [])) (Offer (codes "q")) ≡ (world waiting (too_empty (1 ∷ [])), Refused NoMember)
unfolding serve_offer
offer-no_member = refl

-- the other agent that rings becomes idle
answer-rings : after waiting (queues (Ringing 0 1) (Ringing 0 1) (1 ∷ [])) (Answer (codes "Line/2")) ≡
    (world (channel (main 1) (Talking 0 1 true)) (queues Idle (Talks 0 1) []), Done)
unfolding serve_answer
answer-rings = refl

answer-idle : after waiting one_waits (Answer (codes "Line/2")) ≡ (world waiting one_waits, Refused NotRinging)
unfolding serve_answer
answer-idle = refl

-- the name of an agent is case sensitive
answer-unknown : after waiting (queues (Ringing 0 1) Idle (1 ∷ [])) (Answer (codes "line/1")) ≡
    (world waiting (queues (Ringing 0 1) Idle (1 ∷ [])), Refused NotRinging)
unfolding serve_answer
answer-unknown = refl

decline-rings : after waiting (queues (Ringing 0 1) (Ringing 0 1) (1 ∷ [])) (Decline (codes "Line/1")) ≡
    (world waiting (queues Idle (Ringing 0 1) (1 ∷ [])), Done)
unfolding serve_decline
decline-rings = refl

decline-talks : after (channel (main 1) (Talking 0 0 true)) (queues (Talks 0 1) Idle []) (Decline (codes "Line/1")) ≡
    (world (channel (main 1) (Talking 0 0 true)) (queues (Talks 0 1) Idle []), Refused NotRinging)
unfolding serve_decline
decline-talks = refl

done-goes_on : after (channel (main 1) (Talking 0 0 true)) (queues (Talks 0 1) Idle []) (AgentDone (codes "Line/1")) ≡
    (world (with_queue_status_of (codes "CONTINUE") (channel (main 2) Ready)) one_finished, Done)
unfolding agent_done
done-goes_on = refl

done-hangs_up : after (channel last (Talking 0 0 false)) (queues (Talks 0 1) Idle []) (AgentDone (codes "Line/1")) ≡
    (world (closing Ready) one_finished, Done)
unfolding agent_done hung_up is_found found_entry visit
done-hangs_up = refl

done-rings : after waiting (queues (Ringing 0 1) Idle (1 ∷ [])) (AgentDone (codes "Line/1")) ≡
    (world waiting (queues (Ringing 0 1) Idle (1 ∷ [])), Refused NotTalking)
unfolding agent_done
done-rings = refl
