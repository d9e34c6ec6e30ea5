-- The values that the texts of a channel read, and those that the values of globals read.
use Rattle.std.specs.Prelude.{ℕ, List, [], Option, Some, None, fold}
use Rattle.std.specs.FinMap.{empty, insert}
use Rattle.dp_plan.specs.declared.plan.GlobalVariable.{GlobalVariable}
use Rattle.dp_queue.specs.Counted.{counts_of}
use Rattle.dp_vars.specs.Sights.{ChannelView, QueueCounts, Sight, maps_by, sight_by}
use Rattle.dp_vars.specs.Functions.{FunctionTable}
use Rattle.dp_vars.specs.Values.{expansion_with}
use Rattle.dp_vars.specs.Variables.{Named, value_or_empty}
use Rattle.dp_machine.specs.declared.channel.Channel.{Channel}
use Rattle.dp_app.specs.declared.place.Place.{Place}
use Rattle.dp_machine.specs.declared.shared_state.SharedState.{SharedState}

-- the queue counts before the first phone call: no queue is seen, so nobody waits in any
abbrev pub no_queues : QueueCounts
no_queues = record { waiting = λ queue. 0; members = λ queue. None }

-- the channel with a number as its texts see it
abbrev pub view_in : ℕ → Channel → ChannelView
view_in number c = record {
  number = number;
  context = c.place.context;
  extension = c.place.exten;
  priority = c.place.priority;
  caller = c.caller;
}

-- the maps that are searched for a name in the channel with a number
abbrev pub maps_in : SharedState → ℕ → Channel → List Named
maps_in shared number c = maps_by (Some (view_in number c)) (Some c.store) shared.globals

-- what the texts of the channel with a number see: its place and caller, its variables and frames, the globals, and the counts of the
-- queues
abbrev pub sight_in : SharedState → ℕ → Channel → Sight
sight_in shared number c = sight_by (counts_of shared.queues.queues) (Some (view_in number c)) (Some c.store) shared.globals

-- arguments, expanded by these functions with what the channel with a number sees
unfoldable pub arguments_seen : FunctionTable → SharedState → ℕ → Channel → List ℕ → List ℕ
arguments_seen functions shared number c arguments = expansion_with functions (sight_in shared number c) arguments

-- the value of a name in the channel with a number; empty if there is no channel
abbrev pub value_seen : SharedState → ℕ → Option Channel → List ℕ → List ℕ
value_seen shared number None name = []
value_seen shared number (Some c) name = value_or_empty (maps_in shared number c) name

-- what the value of a global sees: the globals set so far, the counts of the queues, and no channel
abbrev pub sight_of_globals : QueueCounts → Named → Sight
sight_of_globals counts globals = sight_by {B = Place} counts None None globals

-- the value of a global, given its text
unfoldable pub global_value : FunctionTable → QueueCounts → Named → List ℕ → List ℕ
global_value functions counts globals value = expansion_with functions (sight_of_globals counts globals) value

-- the globals with one more
abbrev pub with_global : FunctionTable → QueueCounts → Named → GlobalVariable → Named
with_global functions counts globals variable = insert globals variable.name (global_value functions counts globals variable.value)

-- the globals with those of a dialplan set over them, one after another; of two with one name the later wins
abbrev pub globals_set : FunctionTable → QueueCounts → Named → List GlobalVariable → Named
globals_set functions counts globals variables = fold (with_global functions counts) globals variables

-- the globals of a dialplan before the first phone call
unfoldable pub globals_of : FunctionTable → List GlobalVariable → Named
globals_of functions variables = globals_set functions no_queues empty variables
