use Rattle.std.proofs.Common.{◌++◌, ◌∙◌, List, ap}
use Rattle.dp_plan.specs.Plan.{PlanOf}
use Rattle.dp_audit.specs.Findings.{findings_of_context}
use Rattle.dp_audit.specs.declared.finding.Finding.{Finding}
use Rattle.dp_audit.proofs.FindingsLemmas.{contexts_more}
use Rattle.dp_audit.proofs.findings.findings_of.Goals as goal

pub loop-number-preserved : goal.loop-number-preserved
loop-number-preserved g c = record {
  found =
      c.in_ok-push_of_context.ensures.found
      ∙ (ap (λ (plan : PlanOf). c.loop-number.findings.items ++ findings_of_context g.N.AppNames.known plan c.loop-number.number) c.loop-number.invariant.same
      ∙ (ap (λ (before : List Finding). before ++ findings_of_context g.N.AppNames.known c.args.finder.now c.loop-number.number) c.loop-number.invariant.found
      ∙ contexts_more (findings_of_context g.N.AppNames.known c.args.finder.now) c.loop-number.number));
  same = c.push_of_context.ensures.same ∙ c.loop-number.invariant.same;
}
