use Rattle.std.proofs.Common.{refl, sym, subst, ◌∙◌}
use Rattle.std.proofs.lemmas.Bool.{not-true}
use Rattle.dp_pattern.specs.Kept.{parts_meaning}
use Rattle.dp_pattern.specs.Walk.{classes_of}
use Rattle.dp_pieces.specs.Pieces.{pieces_set}
use Rattle.dp_pieces.specs.ShapeSteps.{AreAllBytes}
use Rattle.dp_pieces.specs.Shown.{shown_all}
use Rattle.dp_pieces.proofs.ShapeLemmas.{name-bytes}
use Rattle.dp_pieces.proofs.TakesLemmas.{covered_name_matches}
use Rattle.dp_pieces.proofs.shapes.matching.covers.Goals as goal

pub all_meet-requires : goal.all_meet-requires
all_meet-requires c = subst (λ n. AreAllBytes (classes_of n)) (sym c.parts.ensures.value) (name-bytes c.args.name.now c.parts.ensures.named)

pub returns-then-all_meet : goal.returns-then-all_meet
returns-then-all_meet c =
    λ is. covered_name_matches (shown_all c.args.pieces.now) (pieces_set (shown_all c.args.pieces.now)) c.args.name.now (parts_meaning c.parts.result) (λ b. refl) (sym c.may_have.ensures ∙ not-true _ is)
    c.parts.ensures.value (c.all_meet.ensures c.if-all_meet.true)
