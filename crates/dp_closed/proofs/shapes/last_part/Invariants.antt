use Rattle.std.proofs.Common.{◌≡◌, ◌∷◌}
use Rattle.dp_pieces.specs.Arguments.{split_pieces}
use Rattle.dp_pieces.specs.Shown.{shown_all}
use Rattle.dp_pieces.proofs.PartLemmas.{left_count, parts_left}
use Rattle.dp_reach.specs.Choices.{last_part}
use Rattle.dp_closed.proofs.shapes.last_part.Given as goal

abbrev pub invariant-loop-rest : goal.invariant-loop-rest
invariant-loop-rest l = last_part (shown_all l.last ∷ parts_left l.rest) ≡ last_part (split_pieces 0 (shown_all l.fn.pieces))

abbrev pub decreases-loop-rest : goal.decreases-loop-rest
decreases-loop-rest l = left_count l.rest
