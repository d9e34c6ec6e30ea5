-- The steps that follow an event: the ready channel of the least number ahead of which nothing is unknown is stepped, again and again, until
-- there is none.
use Rattle.std.specs.Prelude.{ℕ, zero, suc, Bool, true, false, ◌&&◌, List, [], ◌∷◌, length, map, Option, Some, None, is_none, is_some}
use Rattle.std.specs.List.{find, range_with_len}
use Rattle.dp_app.specs.declared.phase.Phase.{Phase}
use Rattle.dp_app.specs.declared.phase.Phase.TheVariants.{Ready, Digits, Pause, Queued, Talking, Dialling, Ended}
use Rattle.dp_machine.specs.Replay.{final_world, world_after}
use Rattle.dp_machine.specs.World.{World}
use Rattle.dp_machine.specs.declared.event.Event.{Event}
use Rattle.dp_machine.specs.declared.event.Event.TheVariants.{Step}
use Rattle.dp_commands.specs.Trace.{phase_at}
use Rattle.dp_wide_runs.specs.Turns.{unknown_at, wide_meanings}
use Rattle.dp_test_runs.specs.Ran.{ran_after}
use Rattle.dp_test_runs.specs.declared.ran_entries.RanEntry.{RanEntry}

-- ---- the channel that is stepped next

-- whether there is a channel, and it is ready
abbrev pub is_ready : Option Phase → Bool
is_ready None = false
is_ready (Some Ready) = true
is_ready (Some (Digits digits is_background)) = false
is_ready (Some Pause) = false
is_ready (Some (Queued queue goes_on has_timer)) = false
is_ready (Some (Talking queue agent goes_on)) = false
is_ready (Some (Dialling goes_on has_timer)) = false
is_ready (Some Ended) = false

-- whether there is a channel with a number
abbrev pub is_channel : World → ℕ → Bool
is_channel w number = is_some (phase_at w number)

-- whether the channel with a number can be stepped: it is ready, and nothing is unknown ahead of it
abbrev pub can_step : World → ℕ → Bool
can_step w number = is_ready (phase_at w number) && is_none (unknown_at w number)

-- the numbers of the channels, in order
abbrev pub numbers_of : World → List ℕ
numbers_of w = range_with_len 1 (length w.channels)

-- the channel that is stepped next: the one of the least number that can be stepped
unfoldable pub next_to_step : World → Option ℕ
next_to_step w = find (can_step w) (numbers_of w)

-- ---- the steps

-- the world after a step of a channel
abbrev pub after_step : World → ℕ → World
after_step w number = final_world wide_meanings w (Step number)

-- a channel, if there is one, and those after it
abbrev pub first_and : Option ℕ → (ℕ → List ℕ) → List ℕ
first_and None later = []
first_and (Some number) later = number ∷ later number

-- the channels that are stepped, one after another, if so many steps are left
abbrev pub stepped_within : ℕ → World → List ℕ
stepped_within zero w = []
stepped_within (suc left) w = first_and (next_to_step w) (λ number. stepped_within left (after_step w number))

-- their steps
abbrev pub steps_within : ℕ → World → List Event
steps_within left w = map Step (stepped_within left w)

-- the world after them
unfoldable pub settled_within : ℕ → World → World
settled_within left w = world_after wide_meanings w (steps_within left w)

-- what they run
unfoldable pub ran_within : ℕ → World → List RanEntry
ran_within left w = ran_after w (steps_within left w)

-- the greatest number of steps after one event
abbrev pub most_steps : ℕ
most_steps = 10000

-- the steps of a world that settles
unfoldable pub steps_of : World → List Event
steps_of w = steps_within most_steps w

-- the world after them
abbrev pub settled_world : World → World
settled_world w = world_after wide_meanings w (steps_of w)

-- whether a world does not settle: after the most steps there is still a channel that can be stepped
abbrev pub is_endless : World → Bool
is_endless w = is_some (next_to_step (settled_world w))
