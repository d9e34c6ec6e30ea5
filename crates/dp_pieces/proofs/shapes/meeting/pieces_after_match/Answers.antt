use Rattle.std.proofs.Common.{sym, subst}
use Rattle.dp_pattern.specs.Walk.{classes_of}
use Rattle.dp_pieces.specs.ShapeSteps.{AreAllBytes}
use Rattle.dp_pieces.proofs.ShapeLemmas.{name-bytes}
use Rattle.dp_pieces.proofs.shapes.meeting.pieces_after_match.Goals as goal

pub push_met-requires : goal.push_met-requires
push_met-requires c = subst (λ n. AreAllBytes (classes_of n)) (sym c.in-Pattern.ensures.value) (name-bytes c.args.name.now c.in-Pattern.ensures.named)
