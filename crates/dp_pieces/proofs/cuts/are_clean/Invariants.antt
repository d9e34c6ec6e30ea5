use Rattle.std.proofs.Common.{◌≡◌, ◌≤◌, drop}
use Rattle.dp_pieces.specs.Arguments.{are_clean}
use Rattle.dp_pieces.specs.Shown.{shown_all}
use Rattle.dp_pieces.proofs.cuts.are_clean.Given as goal

abbrev pub invariant-loop-piece : goal.invariant-loop-piece
invariant-loop-piece l = record {
  bound : l.level ≤ l.piece-index;
  clean : are_clean l.level (drop l.piece-index (shown_all l.pieces)) ≡ are_clean 0 (shown_all l.pieces);
}
