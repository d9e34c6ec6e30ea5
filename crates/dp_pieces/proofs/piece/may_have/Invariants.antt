use Rattle.std.proofs.Common.{◌≡◌, length}
use Rattle.dp_pieces.specs.Pieces.{pieces_set}
use Rattle.dp_pieces.specs.Shown.{shown_all}
use Rattle.dp_pieces.proofs.piece.may_have.Given as goal

abbrev pub invariant-loop-first : goal.invariant-loop-first
invariant-loop-first l = pieces_set (shown_all l.left) l.byte ≡ pieces_set (shown_all l.fn.pieces) l.byte

abbrev pub decreases-loop-first : goal.decreases-loop-first
decreases-loop-first l = length l.left
