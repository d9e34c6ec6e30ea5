use Rattle.std.proofs.Common.{sym, ap, ◌∙◌, subst}
use Rattle.dp_pattern.specs.Kept.{parts_meaning}
use Rattle.dp_pattern.specs.Walk.{classes_of, tail_of}
use Rattle.dp_pieces.specs.Sets.{set_by}
use Rattle.dp_pieces.specs.ShapeSteps.{AreAllBytes, class_at}
use Rattle.dp_pieces.specs.Shown.{shown_piece, shown_all}
use Rattle.dp_pieces.proofs.TakesLemmas.{misses-end, misses-lacks, misses-short, misses-step, misses-within}
use Rattle.dp_pieces.proofs.shapes.matching.may_meet.Goals as goal

pub returns-in_default-split_first : goal.returns-in_default-split_first
returns-in_default-split_first c =
    λ is. c.loop-place.invariant.misses (λ digits fits. misses-short c.skip_nothing.result.now (classes_of (parts_meaning c.loop-place.rest)) (classes_of (parts_meaning c.in-Some.after))
    (class_at c.in-Some.place) (tail_of (parts_meaning c.loop-place.rest)) c.in-Some.ensures.0 c.in_default-split_first.ensures.cases digits (c.skip_nothing.ensures.same.1 digits fits))

pub returns-then-is_any : goal.returns-then-is_any
returns-then-is_any c =
    λ is. c.loop-place.invariant.misses (misses-within (shown_all c.loop-place.left.now) (set_by c.bytes_of.result) c.least_of.result (classes_of (parts_meaning c.loop-place.rest))
    (tail_of (parts_meaning c.loop-place.rest)) c.bytes_of.ensures c.least_of.ensures (c.may_hold.ensures is))

pub returns-then-not-may_be : goal.returns-then-not-may_be
returns-then-not-may_be c =
    λ is. c.loop-place.invariant.misses (λ digits fits. misses-lacks (shown_all c.skip_nothing.result.now) (shown_all c.in-Some-split_first.later.now) (shown_piece c.in-Some-split_first.piece.now)
    (classes_of (parts_meaning c.loop-place.rest)) (classes_of (parts_meaning c.in-Some.after)) (class_at c.in-Some.place) (tail_of (parts_meaning c.loop-place.rest))
    (tail_of (parts_meaning c.in-Some.after)) c.in-Some.ensures.0 (ap shown_all c.in-Some-split_first.ensures.cases.0) (sym c.is_any.ensures ∙ c.if-is_any.false) (c.may_be.ensures c.if-not-may_be.true)
    digits (c.skip_nothing.ensures.same.1 digits fits))

pub loop-place-preserved : goal.loop-place-preserved
loop-place-preserved c = record {
  bytes = (subst AreAllBytes c.in-Some.ensures.0 c.loop-place.invariant.bytes).1;
  misses = λ none. c.loop-place.invariant.misses (λ digits fits. misses-step (shown_all c.skip_nothing.result.now) (shown_all c.in-Some-split_first.later.now) (shown_piece c.in-Some-split_first.piece.now)
      (classes_of (parts_meaning c.loop-place.rest)) (classes_of (parts_meaning c.in-Some.after)) (class_at c.in-Some.place) (tail_of (parts_meaning c.loop-place.rest))
      (tail_of (parts_meaning c.in-Some.after)) c.in-Some.ensures.0 (ap shown_all c.in-Some-split_first.ensures.cases.0) c.in-Some.ensures.1 (sym c.is_any.ensures ∙ c.if-is_any.false) none
      digits (c.skip_nothing.ensures.same.1 digits fits));
}

pub returns : goal.returns
returns c =
    λ is. c.loop-place.invariant.misses (misses-within (shown_all c.loop-place.left.now) (set_by c.bytes_of-2.result) c.least_of-2.result (classes_of (parts_meaning c.loop-place.rest))
    (tail_of (parts_meaning c.loop-place.rest)) c.bytes_of-2.ensures c.least_of-2.ensures
    (misses-end (set_by c.bytes_of-2.result) c.least_of-2.result (classes_of (parts_meaning c.loop-place.rest)) (tail_of (parts_meaning c.loop-place.rest)) c.tail_of.result
    c.in_default.ensures c.tail_of.ensures (c.may_follow.ensures is)))
