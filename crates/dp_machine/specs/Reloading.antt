-- How another dialplan is put in force.
use Rattle.std.specs.Prelude.{ℕ, Bool, true, false, List, Option, Some, None, Result, Ok, Err}
use Rattle.dp_plan.specs.Loaded.{plan_and_notes}
use Rattle.dp_plan.specs.Plan.{PlanOf}
use Rattle.dp_plan.specs.declared.fault.LoadFault.{LoadFault}
use Rattle.dp_plan.specs.declared.note.Note.{Note}
use Rattle.dp_plan.specs.declared.plan.GlobalVariable.{GlobalVariable}
use Rattle.dp_queue.specs.Counted.{counts_of}
use Rattle.dp_vars.specs.Functions.{FunctionTable}
use Rattle.dp_machine.specs.Seen.{globals_set}
use Rattle.dp_machine.specs.World.{World}
use Rattle.dp_machine.specs.declared.event.Event.{Event}
use Rattle.dp_machine.specs.declared.event.Event.TheVariants.{Start, Step, Digit, Timeout, Poll, Hangup, DialResult, Offer, Answer, Decline, AgentDone, Reload, Assign, Redirect}
use Rattle.dp_machine.specs.declared.refusal.Refusal.TheVariants.{BadPlan}
use Rattle.dp_machine.specs.declared.reply.Reply.{Reply}
use Rattle.dp_machine.specs.declared.reply.Reply.TheVariants.{Done, Refused}
use Rattle.dp_machine.specs.declared.shared_state.SharedState.{SharedState}

-- the dialplan that a text loads as, if it has no fault; its notes are dropped
abbrev pub plan_in : Result (PlanOf × List Note) LoadFault → Option PlanOf
plan_in (Ok read) = Some read.0
plan_in (Err fault) = None

-- the shared part with globals set one after another, each expanded with the globals set so far; other globals and the queues stay
abbrev pub shared_with : FunctionTable → SharedState → List GlobalVariable → SharedState
shared_with functions shared variables = record {
  globals = globals_set functions (counts_of shared.queues.queues) shared.globals variables;
  queues = shared.queues;
}

-- the world after a reload, and the reply: the dialplan is put in force and its globals are set, and the channels stay as they are; a
-- dialplan with a fault is refused
abbrev pub reloaded_by : FunctionTable → World → Option PlanOf → World × Reply
reloaded_by functions w None = (w, Refused BadPlan)
reloaded_by functions w (Some plan) = (record { plan = plan; channels = w.channels; shared = shared_with functions w.shared plan.globals }, Done)

-- the event `Reload`
abbrev pub after_reload : FunctionTable → World → List ℕ → World × Reply
after_reload functions w text = reloaded_by functions w (plan_in (plan_and_notes text))

-- whether an event is a reload
abbrev pub is_reload : Event → Bool
is_reload (Start context exten caller) = false
is_reload (Step number) = false
is_reload (Digit number digit) = false
is_reload (Timeout number) = false
is_reload (Poll number) = false
is_reload (Hangup number) = false
is_reload (DialResult number status) = false
is_reload (Offer queue) = false
is_reload (Answer agent) = false
is_reload (Decline agent) = false
is_reload (AgentDone agent) = false
is_reload (Reload text) = true
is_reload (Assign channel name value) = false
is_reload (Redirect number place) = false
