use Rattle.std.proofs.Common.{◌≡◌, ◌≤◌, ◌+◌, suc, sym, ap, ◌∙◌, subst, arith}
use Rattle.dp_pieces.specs.Shown.{shown_piece, shown_all}
use Rattle.dp_pieces.specs.steps.Stands.{cut_rule}
use Rattle.dp_pieces.proofs.RuleLemmas.{cut_from, cut_from-apart, cut_from-here, cut_from-maybe, cut_from-over, level-bound, parts-at}
use Rattle.dp_pieces.proofs.cuts.cut_by.Goals as goal

pub returns-in-Here : goal.returns-in-Here
returns-in-Here c =
    parts-at c.loop-at.at c.args.pieces.now
    ∙ (cut_from-here c.args.rule c.loop-at.level c.loop-at.at c.args.pieces.now c.index-pieces-at.result c.loop-at-test.true c.index-pieces-at.is
    (sym c.in-Here.is ∙ c.stand_at.ensures) ∙ c.loop-at.invariant.cut)

pub returns-in-Maybe : goal.returns-in-Maybe
returns-in-Maybe c =
    cut_from-maybe c.args.rule c.loop-at.level c.loop-at.at c.args.pieces.now c.index-pieces-at.result c.loop-at-test.true c.index-pieces-at.is
    (sym c.in-Maybe.is ∙ c.stand_at.ensures) ∙ c.loop-at.invariant.cut

pub loop-at-preserved : goal.loop-at-preserved
loop-at-preserved c =
    let next : suc c.loop-at.at ≡ c.loop-at.at + 1 = omega arith in
    record {
      bound = subst (λ n. n ≤ c.loop-at.at + 1) (sym c.level_after-level.ensures) (level-bound c.loop-at.level c.loop-at.at (shown_piece c.index-pieces-at.result) c.loop-at.invariant.bound);
      cut = subst (λ n. cut_from c.args.rule c.level_after-level.result n c.args.pieces.now ≡ cut_rule c.args.rule 0 (shown_all c.args.pieces.now)) next
          (ap (λ l. cut_from c.args.rule l (suc c.loop-at.at) c.args.pieces.now) c.level_after-level.ensures
          ∙ (cut_from-apart c.args.rule c.loop-at.level c.loop-at.at c.args.pieces.now c.index-pieces-at.result c.loop-at-test.true c.index-pieces-at.is
          (sym c.in-Apart.is ∙ c.stand_at.ensures) ∙ c.loop-at.invariant.cut));
    }

pub returns : goal.returns
returns c = cut_from-over c.args.rule c.loop-at.level c.loop-at.at c.args.pieces.now (omega (arith, c.loop-at-test.false)) ∙ c.loop-at.invariant.cut
