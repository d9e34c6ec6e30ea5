use Rattle.std.proofs.Common.{◌≡◌, ◌++◌, map}
use Rattle.dp_pieces.specs.Arguments.{split_pieces}
use Rattle.dp_pieces.specs.Shown.{shown_all}
use Rattle.dp_pieces.specs.Trimmed.{without_end_blanks}
use Rattle.dp_pieces.proofs.PartLemmas.{left_count, parts_left}
use Rattle.dp_pieces.proofs.arguments.shapes_of.Given as goal

abbrev pub invariant-loop-rest : goal.invariant-loop-rest
invariant-loop-rest l = map (λ shape. shown_all shape.items) l.shapes.items ++ map without_end_blanks (parts_left l.rest) ≡ map without_end_blanks (split_pieces 0 (shown_all l.fn.pieces))

abbrev pub decreases-loop-rest : goal.decreases-loop-rest
decreases-loop-rest l = left_count l.rest
