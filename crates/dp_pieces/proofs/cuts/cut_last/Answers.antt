use Rattle.std.proofs.Common.{sym, ap, ◌∙◌}
use Rattle.dp_pieces.specs.Cuts.{cut_last}
use Rattle.dp_pieces.specs.Shown.{shown_all}
use Rattle.dp_pieces.specs.declared.cuts.Stand.{Stand}
use Rattle.dp_pieces.proofs.RuleLemmas.{last-kept, last_by}
use Rattle.dp_pieces.proofs.cuts.cut_last.Goals as goal

pub returns-in-Here : goal.returns-in-Here
returns-in-Here c =
    ap (λ (s : Stand). last_by s (shown_all c.in-Some.front.now) (cut_last c.args.mark (shown_all c.in-Some.front.now))) (sym c.in-Here.is ∙ c.stand_at.ensures)
    ∙ (sym (last-kept c.args.mark c.loop-last.left.now c.in-Some.front.now c.in-Some.last.now c.in-Some.ensures.cases.0) ∙ c.loop-last.invariant)

pub returns-in-Maybe : goal.returns-in-Maybe
returns-in-Maybe c =
    ap (λ (s : Stand). last_by s (shown_all c.in-Some.front.now) (cut_last c.args.mark (shown_all c.in-Some.front.now))) (sym c.in-Maybe.is ∙ c.stand_at.ensures)
    ∙ (sym (last-kept c.args.mark c.loop-last.left.now c.in-Some.front.now c.in-Some.last.now c.in-Some.ensures.cases.0) ∙ c.loop-last.invariant)

pub loop-last-preserved : goal.loop-last-preserved
loop-last-preserved c =
    ap (λ (s : Stand). last_by s (shown_all c.in-Some.front.now) (cut_last c.args.mark (shown_all c.in-Some.front.now))) (sym c.in-Apart.is ∙ c.stand_at.ensures)
    ∙ (sym (last-kept c.args.mark c.loop-last.left.now c.in-Some.front.now c.in-Some.last.now c.in-Some.ensures.cases.0) ∙ c.loop-last.invariant)
