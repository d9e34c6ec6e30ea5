-- Where a debugged run halts: before the first event, of those whose breaks are checked, before which a break holds.
use Rattle.std.specs.Prelude.{◌≡◌, ℕ, ◌≤◌, ◌<◌, List, ◌++◌, length, slice_get, slice_range, take, Option, Some, None}
use Rattle.std.specs.Option.{option_and_then}
use Rattle.dp_app.specs.Rows.{Meanings}
use Rattle.dp_machine.specs.Replay.{replies_to, world_after}
use Rattle.dp_machine.specs.World.{World}
use Rattle.dp_machine.specs.declared.event.Event.{Event}
use Rattle.dp_machine.specs.declared.reply.Reply.{Reply}
use Rattle.dp_debug.specs.Breaks.{first_before}
use Rattle.dp_debug.specs.declared.breaks.Break.{Break}
use Rattle.dp_debug.specs.declared.halt.Halt.{Halt}
use Rattle.dp_debug.specs.declared.halt.Why.{Why}
use Rattle.dp_debug.specs.declared.halt.Why.TheVariants.{End, Break as at_break, NoMemory}

-- the first break that holds before the event with a number, in the world after the events from one number up to it
unfoldable pub first_at : Meanings → World → List Event → ℕ → List Break → ℕ → Option ℕ
first_at meanings w events from breaks number =
    option_and_then (λ event. first_before (world_after meanings w (slice_range events from number)) event breaks) (slice_get events number)

-- why a run halts before the event with a number: all events were taken, or this is the first break that holds there and the breaks are
-- checked there, or memory ran out
abbrev pub IsWhy : ℕ → ℕ → ℕ → Option ℕ → Why → Type 0
IsWhy count asked taken first End = taken ≡ count
IsWhy count asked taken first (at_break number) = (asked ≤ taken) × (first ≡ Some number)
IsWhy count asked taken first NoMemory = Unit {0}

-- a run over the events from one number on, which checks the breaks from another number on: where it halts, the replies then and the world
-- then; no break held before any event that it checked and took
pub record IsRun (meanings : Meanings) (w : World) (events : List Event) (breaks : List Break) (from asked : ℕ) (old : List Reply) (halt : Halt)
    (new : List Reply) (after : World) : Type 0 where
  pub begun : from ≤ halt.taken
  pub within : halt.taken ≤ length events
  pub world : after ≡ world_after meanings w (slice_range events from halt.taken)
  pub replies : new ≡ old ++ replies_to meanings w (slice_range events from halt.taken)
  pub none : (number : ℕ) → asked ≤ number → number < halt.taken → first_at meanings w events from breaks number ≡ None
  pub why : IsWhy (length events) asked halt.taken (first_at meanings w events from breaks halt.taken) halt.why

-- the first so many events of the list were taken: the replies to them, and the world after them
pub record HasTaken (meanings : Meanings) (w : World) (events : List Event) (taken : ℕ) (trace : List Reply) (after : World) : Type 0 where
  pub within : taken ≤ length events
  pub replies : trace ≡ replies_to meanings w (take taken events)
  pub world : after ≡ world_after meanings w (take taken events)
