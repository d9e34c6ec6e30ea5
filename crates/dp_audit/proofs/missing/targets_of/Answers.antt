use Rattle.std.proofs.Common.{◌++◌, ◌∙◌, List, ap}
use Rattle.dp_audit.specs.Missing.{EntryTarget, of_context}
use Rattle.dp_audit.proofs.FindingsLemmas.{contexts_more}
use Rattle.dp_audit.proofs.missing.targets_of.Goals as goal

pub loop-number-preserved : goal.loop-number-preserved
loop-number-preserved g c =
    let of_one = of_context g.J.Jumps.targets c.args.plan.now in
    let number = c.loop-number.number in
    c.in_ok-push_of_context.ensures
    ∙ (ap (λ (before : List EntryTarget). before ++ of_one number) c.loop-number.invariant ∙ contexts_more of_one number)
