use Rattle.std.proofs.Common.{◌≡◌, drop}
use Rattle.dp_pieces.specs.Shown.{shown_all}
use Rattle.dp_reach.specs.Areas.{may_be_empty}
use Rattle.dp_wide_duties.proofs.arguments.may_be_empty.Given as goal

abbrev pub invariant-loop-piece : goal.invariant-loop-piece
invariant-loop-piece l = may_be_empty (shown_all (drop l.piece-index l.pieces)) ≡ may_be_empty (shown_all l.pieces)
