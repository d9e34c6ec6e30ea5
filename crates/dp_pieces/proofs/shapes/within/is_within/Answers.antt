use Rattle.std.proofs.Common.{ap, eqb-true, length, sym, ◌∙◌}
use Rattle.dp_pieces.specs.Sets.{set_by}
use Rattle.dp_pieces.specs.Shown.{shown_piece, shown_all}
use Rattle.dp_pieces.proofs.AlwaysFitsLemmas.{fits-any, fits-ended, fits-step}
use Rattle.dp_pieces.proofs.shapes.within.is_within.Goals as goal

pub loop-wide-init : goal.loop-wide-init
loop-wide-init c = λ always text fits. c.skip_nothing-right.ensures.same.0 text (always text fits)

pub returns-in-Some-only_set : goal.returns-in-Some-only_set
returns-in-Some-only_set c =
    λ is. c.loop-wide.invariant (fits-any (shown_piece c.in-Some.wide.now) (shown_all c.skip_nothing-more.result.now) (shown_all c.loop-wide.left.now) (shown_all c.loop-wide.right.now)
    (shown_all c.in-Some.more.now) (set_by c.bytes_of.result) (set_by c.in-Some-only_set.set.now) (ap shown_all c.in-Some.ensures.cases.0) c.skip_nothing-more.ensures.same.0
    c.in-Some-only_set.ensures c.bytes_of.ensures (c.is_part.ensures.part is))

pub loop-wide-preserved : goal.loop-wide-preserved
loop-wide-preserved c =
    λ always. c.loop-wide.invariant (fits-step (shown_piece c.in-Some-split_first.piece.now) (shown_piece c.in-Some.wide.now) (shown_all c.in-Some-split_first.later.now) (shown_all c.skip_nothing-more.result.now)
    (shown_all c.loop-wide.left.now) (shown_all c.skip_nothing.result.now) (shown_all c.loop-wide.right.now) (shown_all c.in-Some.more.now) c.skip_nothing.ensures.same.1
    (ap shown_all c.in-Some-split_first.ensures.cases.0) (ap shown_all c.in-Some.ensures.cases.0) c.skip_nothing-more.ensures.same.0
    (c.is_within_piece.ensures c.if-not-is_within_piece.false) always)

pub returns : goal.returns
returns c =
    λ is. c.loop-wide.invariant (fits-ended (shown_all c.loop-wide.left.now) c.skip_nothing-2.result.now c.loop-wide.right.now c.skip_nothing-2.ensures.same.1
    (eqb-true (length c.skip_nothing-2.result.now) 0 (sym c.is_empty.ensures ∙ is)) c.in_default.ensures.cases)
