use Rattle.std.proofs.Common.{◌≡◌, ◌++◌, length}
use Rattle.std.specs.Option.{option_map}
use Rattle.dp_pieces.specs.Pieces.{text_known}
use Rattle.dp_pieces.specs.Shown.{shown_all}
use Rattle.dp_pieces.proofs.piece.known_text.Given as goal

abbrev pub invariant-loop-first : goal.invariant-loop-first
invariant-loop-first l = option_map (λ bytes. l.text.items ++ bytes) (text_known (shown_all l.left)) ≡ text_known (shown_all l.fn.pieces)

abbrev pub decreases-loop-first : goal.decreases-loop-first
decreases-loop-first l = length l.left
