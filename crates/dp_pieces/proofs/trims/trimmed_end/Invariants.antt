use Rattle.std.proofs.Common.{◌≡◌, ◌++◌, drop, map}
use Rattle.dp_pieces.specs.Shown.{shown_all}
use Rattle.dp_pieces.specs.steps.Softened.{soft_piece}
use Rattle.dp_pieces.proofs.trims.trimmed_end.Given as goal

abbrev pub invariant-loop-piece : goal.invariant-loop-piece
invariant-loop-piece l = shown_all l.kept.items ++ map soft_piece (drop l.piece-index (shown_all l.left)) ≡ map soft_piece (shown_all l.left)
