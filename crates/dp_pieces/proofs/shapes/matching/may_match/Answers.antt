use Rattle.std.proofs.Common.{refl, sym, subst, ◌∙◌}
use Rattle.dp_pattern.specs.Kept.{parts_meaning}
use Rattle.dp_pattern.specs.Walk.{classes_of}
use Rattle.dp_pieces.specs.Pieces.{pieces_set}
use Rattle.dp_pieces.specs.Sets.{set_by}
use Rattle.dp_pieces.specs.ShapeSteps.{AreAllBytes}
use Rattle.dp_pieces.specs.Shown.{shown_all}
use Rattle.dp_pieces.proofs.ShapeLemmas.{name-bytes}
use Rattle.dp_pieces.proofs.TakesLemmas.{missed_name_differs, unmatched-dashed}
use Rattle.dp_pieces.proofs.shapes.matching.may_match.Goals as goal

pub may_hold-requires : goal.may_hold-requires
may_hold-requires c = subst (λ n. AreAllBytes (classes_of n)) (sym c.parts.ensures.value) (name-bytes c.args.name.now c.parts.ensures.named)

pub may_meet-requires : goal.may_meet-requires
may_meet-requires c = subst (λ n. AreAllBytes (classes_of n)) (sym c.parts-2.ensures.value) (name-bytes c.args.name.now c.parts-2.ensures.named)

pub returns-then-may_have : goal.returns-then-may_have
returns-then-may_have c =
    λ is. unmatched-dashed (shown_all c.args.pieces.now) (set_by c.bytes_of.result) c.args.name.now (parts_meaning c.parts.result) c.bytes_of.ensures c.parts.ensures.value (c.may_hold.ensures is)

pub returns : goal.returns
returns c =
    λ is. missed_name_differs (shown_all c.args.pieces.now) (pieces_set (shown_all c.args.pieces.now)) c.args.name.now (parts_meaning c.parts-2.result) (λ b. refl) (sym c.may_have.ensures ∙ c.if-may_have.false)
    c.parts-2.ensures.value (c.may_meet.ensures is)
