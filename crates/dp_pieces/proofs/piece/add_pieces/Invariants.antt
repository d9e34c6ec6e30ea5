use Rattle.std.proofs.Common.{◌≡◌, ◌||◌, ℕ, drop}
use Rattle.dp_pieces.specs.Pieces.{pieces_set}
use Rattle.dp_pieces.specs.Sets.{set_by}
use Rattle.dp_pieces.specs.Shown.{shown_all}
use Rattle.dp_pieces.proofs.piece.add_pieces.Given as goal

abbrev pub invariant-loop-piece : goal.invariant-loop-piece
invariant-loop-piece l = (b : ℕ) → (set_by l.set b || pieces_set (drop l.piece-index (shown_all l.pieces)) b) ≡ (set_by l.fn.set b || pieces_set (shown_all l.pieces) b)
