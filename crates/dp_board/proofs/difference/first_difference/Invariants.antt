use Rattle.std.specs.Prelude.{◌≡◌, ◌≤◌, ◌++◌, take, drop, length}
use Rattle.dp_board.specs.Difference.{told_from, told_to}
use Rattle.dp_board.proofs.difference.first_difference.Given as goal

abbrev pub invariant-loop-place : goal.invariant-loop-place
invariant-loop-place l = record {
  same : take l.index l.told ++ told_from l.seat l.place (drop l.place l.entries) ≡ told_to l.seat l.entries;
  within : l.index ≤ length l.told;
}
