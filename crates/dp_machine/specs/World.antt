-- The world of a machine: the dialplan, the channels, and what all channels share.
use Rattle.std.specs.Option.{option_map}
use Rattle.std.specs.Prelude.{ℕ, ◌-◌, ◌==◌, List, [], Option, None, slice_get, slice_set, if◌then◌else◌}
use Rattle.dp_plan.specs.Plan.{PlanOf}
use Rattle.dp_queue.specs.Queues.{QueuesOf}
use Rattle.dp_vars.specs.Functions.{FunctionTable}
use Rattle.dp_vars.specs.Values.{standard_functions}
use Rattle.dp_machine.specs.Seen.{arguments_seen, globals_of, value_seen}
use Rattle.dp_machine.specs.declared.channel.Channel.{Channel}
use Rattle.dp_machine.specs.declared.exchange.Exchange.{Exchange}
use Rattle.dp_machine.specs.declared.shared_state.SharedState.{SharedState}

-- the dialplan in force, the channels numbered from 1, and what they share
pub record World : Type 0 where
  pub plan : PlanOf
  pub channels : List Channel
  pub shared : SharedState

-- the greatest number of channels that a world has
abbrev pub most_channels : ℕ
most_channels = 65535

-- the world with a dialplan, its channels and what they share
abbrev pub world_of : PlanOf → List Channel → SharedState → World
world_of plan channels shared = record { plan = plan; channels = channels; shared = shared }

-- the world with an exchange and its channels
abbrev pub world_in : Exchange → List Channel → World
world_in exchange channels = world_of exchange.plan channels exchange.shared

-- the world with these queues before the first phone call; these functions expand the globals
abbrev pub opening_with : FunctionTable → PlanOf → QueuesOf → World
opening_with functions plan queues = world_of plan [] (record { globals = globals_of functions plan.globals; queues = queues })

-- the world with these queues before the first phone call; the functions of this program expand the globals
abbrev pub opening : PlanOf → QueuesOf → World
opening plan queues = opening_with standard_functions plan queues

-- the channel with a number
abbrev pub channel_at : List Channel → ℕ → Option Channel
channel_at channels number = if number == 0 then None else slice_get channels (number - 1)

-- the channels with one of them changed
abbrev pub with_channel : List Channel → ℕ → Channel → List Channel
with_channel channels number channel = slice_set channels (number - 1) channel

-- the value of a name in the channel with a number; empty if there is no such channel
abbrev pub value_in : World → ℕ → List ℕ → List ℕ
value_in w number name = value_seen w.shared number (channel_at w.channels number) name

-- a text, expanded by these functions in the channel with a number; None if there is no such channel
abbrev pub text_in : FunctionTable → World → ℕ → List ℕ → Option (List ℕ)
text_in functions w number text = option_map (λ c. arguments_seen functions w.shared number c text) (channel_at w.channels number)
