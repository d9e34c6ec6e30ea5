-- A history in which one channel is silent.
use Rattle.std.specs.Prelude.{◌≡◌, ℕ, not, List, filter}
use Rattle.dp_app.specs.Rows.{Meanings}
use Rattle.dp_machine.specs.Isolation.{AreSameBut, is_of, without}
use Rattle.dp_machine.specs.Replay.{replies_to, world_after}
use Rattle.dp_machine.specs.World.{World}
use Rattle.dp_board.specs.Log.{Log, events_in, replies_in}
use Rattle.dp_board.specs.declared.entry.Entry.{Entry}

-- the entries of the calls that do not belong to the channel with a number
abbrev pub entries_without : ℕ → List Entry → List Entry
entries_without number entries = filter (λ entry. not (is_of number entry.event)) entries

-- a channel may as well have been silent: without its events, each other call has the reply of its entry, and the last world is the same
-- but for this channel
pub record MayBeSilent (meanings : Meanings) (first : World) (number : ℕ) (history : Log) : Type 0 where
  pub replies : replies_to meanings first (without number (events_in history.entries)) ≡ replies_in (entries_without number history.entries)
  pub world : AreSameBut number (world_after meanings first (without number (events_in history.entries))) history.world
