use Rattle.std.specs.Prelude.{◌≡◌, length, take}
use Rattle.dp_board.specs.steps.Places.{CountsEntries}
use Rattle.dp_board.proofs.places.count_entries.Given as goal

abbrev pub invariant-loop-entry : goal.invariant-loop-entry
invariant-loop-entry l = record {
  len : length l.counts ≡ length l.fn.counts;
  counts : CountsEntries (take l.entry-index l.entries) l.counts;
}
