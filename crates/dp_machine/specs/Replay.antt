-- The world after a list of events, and the replies to them.
use Rattle.std.specs.Prelude.{◌≡◌, ◌+◌, ◌-◌, ◌≤◌, List, [], ◌∷◌, ◌++◌, length, take, fold}
use Rattle.dp_app.specs.Rows.{Meanings}
use Rattle.dp_machine.specs.Events.{event_row}
use Rattle.dp_machine.specs.World.{World}
use Rattle.dp_machine.specs.declared.event.Event.{Event}
use Rattle.dp_machine.specs.declared.reply.Reply.{Reply}

-- the world after one event
abbrev pub final_world : Meanings → World → Event → World
final_world meanings w event = (event_row meanings w event).0

-- the world after the events
abbrev pub world_after : Meanings → World → List Event → World
world_after meanings w events = fold (final_world meanings) w events

-- the replies to the events
abbrev pub replies_to : Meanings → World → List Event → List Reply
replies_to meanings w [] = []
replies_to meanings w (event ∷ events) = (event_row meanings w event).1 ∷ replies_to meanings (final_world meanings w event) events

-- the run replied to the first so many events, and left the world as it is after them
pub record RanFirst (meanings : Meanings) (w : World) (events : List Event) (old new : List Reply) (after : World) : Type 0 where
  pub within : length new ≤ length old + length events
  pub replies : new ≡ old ++ replies_to meanings w (take (length new - length old) events)
  pub world : after ≡ world_after meanings w (take (length new - length old) events)
