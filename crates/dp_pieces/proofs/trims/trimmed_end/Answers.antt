use Rattle.std.proofs.Common.{◌≡◌, ◌++◌, ◌+◌, suc, drop, map, sym, ap, ◌∙◌, subst, arith}
use Rattle.dp_pieces.specs.Shown.{shown_all}
use Rattle.dp_pieces.specs.steps.Softened.{soft_piece}
use Rattle.dp_pieces.proofs.SoftLemmas.{soft-end, soft-next, soft-over}
use Rattle.dp_pieces.proofs.trims.trimmed_end.Goals as goal

pub loop-piece-preserved : goal.loop-piece-preserved
loop-piece-preserved c =
    let next : suc c.loop-piece.piece-index ≡ c.loop-piece.piece-index + 1 = omega arith in
    subst (λ n. shown_all c.push.new.self.items ++ map soft_piece (drop n (shown_all c.skip_last-left.result.now)) ≡ map soft_piece (shown_all c.skip_last-left.result.now)) next
    (soft-next c.loop-piece.piece-index c.loop-piece.kept.items c.push.new.self.items c.skip_last-left.result.now c.piece-item.result c.soften.result
    c.in_ok-push.ensures.items c.soften.ensures c.loop-piece-test.true c.piece-item.is ∙ c.loop-piece.invariant)

pub returns : goal.returns
returns c =
    soft-over c.loop-piece.piece-index c.loop-piece.kept.items c.skip_last-left.result.now c.loop-piece-test.false
    ∙ (c.loop-piece.invariant ∙ (ap (map soft_piece) c.skip_last-left.ensures ∙ sym (soft-end (shown_all c.args.pieces.now))))
