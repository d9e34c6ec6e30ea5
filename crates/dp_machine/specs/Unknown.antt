-- What is unknown ahead of a channel, that is, in the entry that its next step would run.
use Rattle.std.specs.Prelude.{ℕ, List, Option, Some, None, if◌then◌else◌}
use Rattle.std.specs.Option.{option_and_then, option_map, option_or}
use Rattle.dp_plan.specs.declared.entry.Entry.{Entry}
use Rattle.dp_vars.specs.Functions.{FunctionTable}
use Rattle.dp_vars.specs.Unknown.{any_text, first_unknown}
use Rattle.dp_app.specs.Knowledge.{Knowledge}
use Rattle.dp_app.specs.Rows.{Meanings, has_row}
use Rattle.dp_machine.specs.Events.{located_in}
use Rattle.dp_machine.specs.Seen.{arguments_seen, sight_in}
use Rattle.dp_machine.specs.World.{World, channel_at}
use Rattle.dp_machine.specs.declared.channel.Channel.{Channel}
use Rattle.dp_machine.specs.declared.shared_state.SharedState.{SharedState}
use Rattle.dp_machine.specs.declared.unknown.Unknown.{Unknown}
use Rattle.dp_machine.specs.declared.unknown.Unknown.TheVariants.{Application, Asked, Group}

-- the first group in some arguments that the functions do not know, with what the channel with a number sees
unfoldable pub unknown_seen : FunctionTable → SharedState → ℕ → Channel → List ℕ → Option (List ℕ)
unknown_seen functions shared number c arguments = first_unknown functions (sight_in shared number c) arguments

-- the unknown text that an application asks for with these arguments, with what the channel with a number sees
unfoldable pub unknown_asked : Meanings → Knowledge → SharedState → ℕ → Channel → Entry → Option (List ℕ)
unknown_asked meanings knowledge shared number c entry =
    any_text (knowledge.asks (sight_in shared number c) entry.application (arguments_seen meanings.functions shared number c entry.arguments))

-- what is unknown in the arguments of an entry: a group in them, else what the application asks with them; nothing if the application does
-- not look at them
abbrev pub unknown_of_arguments : Meanings → Knowledge → SharedState → ℕ → Channel → Entry → Option Unknown
unknown_of_arguments meanings knowledge shared number c entry =
    if knowledge.looks entry.application
    then option_or (option_map (λ group. Group group) (unknown_seen meanings.functions shared number c entry.arguments))
    (option_map (λ asked. Asked asked) (unknown_asked meanings knowledge shared number c entry))
    else None

-- what is unknown of an entry: its application if the table lacks it, else something in its arguments
abbrev pub unknown_of_entry : Meanings → Knowledge → SharedState → ℕ → Channel → Entry → Option Unknown
unknown_of_entry meanings knowledge shared number c entry =
    if has_row meanings.rows entry.application
    then unknown_of_arguments meanings knowledge shared number c entry
    else Some (Application entry.application)

-- what is unknown ahead of a channel
abbrev pub unknown_in : Meanings → Knowledge → World → ℕ → Channel → Option Unknown
unknown_in meanings knowledge w number c =
    option_and_then (λ found. unknown_of_entry meanings knowledge w.shared number c found.entry) (located_in c.phase w.plan c)

-- what is unknown ahead of the channel with a number
abbrev pub unknown_ahead : Meanings → Knowledge → World → ℕ → Option Unknown
unknown_ahead meanings knowledge w number = option_and_then (λ c. unknown_in meanings knowledge w number c) (channel_at w.channels number)

-- the first group in a text that the functions do not know in the channel with a number; nothing if there is no such channel
abbrev pub unknown_in_text : FunctionTable → World → ℕ → List ℕ → Option (List ℕ)
unknown_in_text functions w number text = option_and_then (λ c. unknown_seen functions w.shared number c text) (channel_at w.channels number)
