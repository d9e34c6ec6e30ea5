use Rattle.std.proofs.Common.{sym, ap, ◌∙◌, subst}
use Rattle.dp_pattern.specs.Kept.{parts_meaning}
use Rattle.dp_pattern.specs.Walk.{classes_of, tail_of}
use Rattle.dp_pieces.specs.Sets.{set_by}
use Rattle.dp_pieces.specs.ShapeSteps.{AreAllBytes, class_at}
use Rattle.dp_pieces.specs.Shown.{shown_piece, shown_all}
use Rattle.dp_pieces.proofs.TakesLemmas.{always-end, always-step, always-within}
use Rattle.dp_pieces.proofs.shapes.matching.all_meet.Goals as goal

pub returns-then-is_any : goal.returns-then-is_any
returns-then-is_any c =
    λ is. c.loop-place.invariant.takes (always-within (shown_all c.loop-place.left.now) (set_by c.bytes_of.result) c.least_of.result (classes_of (parts_meaning c.loop-place.rest))
    (tail_of (parts_meaning c.loop-place.rest)) c.bytes_of.ensures c.least_of.ensures (c.all_hold.ensures is))

pub loop-place-preserved : goal.loop-place-preserved
loop-place-preserved c = record {
  bytes = (subst AreAllBytes c.in-Some.ensures.0 c.loop-place.invariant.bytes).1;
  takes = λ always. c.loop-place.invariant.takes (λ digits fits. always-step (shown_all c.skip_nothing.result.now) (shown_all c.in-Some-split_first.later.now) (shown_piece c.in-Some-split_first.piece.now)
      (classes_of (parts_meaning c.loop-place.rest)) (classes_of (parts_meaning c.in-Some.after)) (class_at c.in-Some.place) (tail_of (parts_meaning c.loop-place.rest))
      (tail_of (parts_meaning c.in-Some.after)) (ap shown_all c.in-Some-split_first.ensures.cases.0) c.in-Some.ensures.0 c.in-Some.ensures.1 (sym c.is_any.ensures ∙ c.if-is_any.false)
      (c.all_be.ensures c.if-not-all_be.false) always digits (c.skip_nothing.ensures.same.1 digits fits));
}

pub returns : goal.returns
returns c =
    λ is. c.loop-place.invariant.takes (always-within (shown_all c.loop-place.left.now) (set_by c.bytes_of-2.result) c.least_of-2.result (classes_of (parts_meaning c.loop-place.rest))
    (tail_of (parts_meaning c.loop-place.rest)) c.bytes_of-2.ensures c.least_of-2.ensures
    (always-end (set_by c.bytes_of-2.result) c.least_of-2.result (classes_of (parts_meaning c.loop-place.rest)) (tail_of (parts_meaning c.loop-place.rest)) c.tail_of.result
    c.in_default.ensures c.tail_of.ensures (c.all_follow.ensures is)))
