use Rattle.std.proofs.Common.{◌≡◌, length, eq-eqb, true, false, sym, ◌∙◌}
use Rattle.dp_pieces.specs.Pieces.{piece_set, pieces_set}
use Rattle.dp_pieces.specs.Sets.{set_by}
use Rattle.dp_pieces.specs.Shown.{shown_piece, shown_all}
use Rattle.dp_pieces.proofs.FitsLemmas.{fits-set}
use Rattle.dp_pieces.proofs.FittingLemmas.{empty-fits, first-fits, over-fits}
use Rattle.dp_pieces.proofs.WithinLemmas.{within-more}
use Rattle.dp_pieces.proofs.shapes.fitting.may_fit.Goals as goal

pub returns-then-is_any : goal.returns-then-is_any
returns-then-is_any c = λ no fits.
    c.has_all.ensures no (within-more (pieces_set (shown_all c.loop-piece.left.now)) (set_by c.bytes_of.result) (λ b has. c.bytes_of.ensures b ∙ has) c.loop-piece.rest.now
    (fits-set (shown_all c.loop-piece.left.now) c.loop-piece.rest.now (c.loop-piece.invariant fits)))

pub returns-in_default-split_first : goal.returns-in_default-split_first
returns-in_default-split_first c = λ no fits.
    empty-fits c.loop-piece.left.now c.in-Some.later.now c.in-Some.piece.now c.loop-piece.rest.now c.in-Some.ensures.cases.0 c.in_default-split_first.ensures.cases
    (sym (c.if-is_any.ensures {u = tt})) (c.loop-piece.invariant fits)

pub returns-then-not-may_be : goal.returns-then-not-may_be
returns-then-not-may_be c = λ no fits.
    let first = first-fits c.loop-piece.left.now c.in-Some.later.now c.in-Some.piece.now c.loop-piece.rest.now c.in-Some-split_first.after.now c.in-Some-split_first.byte.now
    c.in-Some.ensures.cases.0 c.in-Some-split_first.ensures.cases.0 (sym (c.if-is_any.ensures {u = tt})) (c.loop-piece.invariant fits) in
    let lacks : piece_set (shown_piece c.in-Some.piece.now) c.in-Some-split_first.byte.now ≡ false = sym c.may_be.ensures ∙ c.if-not-may_be.true in
    let apart : true ≡ false = sym first.0 ∙ lacks in let bottom : ⊥ = cc in bottom

pub loop-piece-preserved : goal.loop-piece-preserved
loop-piece-preserved c = λ fits.
    (first-fits c.loop-piece.left.now c.in-Some.later.now c.in-Some.piece.now c.loop-piece.rest.now c.in-Some-split_first.after.now c.in-Some-split_first.byte.now
    c.in-Some.ensures.cases.0 c.in-Some-split_first.ensures.cases.0 (sym (c.if-is_any.ensures {u = tt})) (c.loop-piece.invariant fits)).1

pub returns : goal.returns
returns c = λ no fits.
    let over = over-fits c.loop-piece.left.now c.loop-piece.rest.now c.in_default.ensures.cases (c.loop-piece.invariant fits) in
    let yes : c.is_empty.result ≡ true = c.is_empty.ensures ∙ eq-eqb (length c.loop-piece.rest.now) 0 over in
    let apart : true ≡ false = sym yes ∙ no in let bottom : ⊥ = cc in bottom
