use Rattle.std.proofs.Common.{◌≡◌, ◌+◌, ◌≤◌, drop}
use Rattle.dp_pieces.specs.ShapeSteps.{least_of}
use Rattle.dp_pieces.specs.Shown.{shown_all}
use Rattle.dp_pieces.proofs.shapes.length.least_of.Given as goal

abbrev pub invariant-loop-piece : goal.invariant-loop-piece
invariant-loop-piece l = record {
  bound : l.least ≤ l.piece-index;
  counted : l.least + least_of (shown_all (drop l.piece-index l.pieces)) ≡ least_of (shown_all l.pieces);
}
