use Rattle.std.proofs.Common.{None}
use Rattle.std.specs.Option.{option_map}
use Rattle.dp_program.specs.declared.dialplans.PlanUse.TheVariants.{Report}
use Rattle.dp_program.proofs.PlanQuestionLemmas.{over_included_lacks}
use Rattle.dp_program.proofs.plan_pairs.OnMadePlanPlanQuestion.may_lack_memory.Goals as goal

-- the question may lack memory on the files in which the second dialplan has its text
pub returns : goal.returns
returns g c =
    let serves = g.Q.PlanQuestion.serves c.args.self.now.question.now in
    let clock = option_map (λ word. word.now) c.args.self.now.clock in
    λ files old. over_included_lacks serves old (λ files. c.may_lack_memory.ensures files old) Report clock files c.args.self.now.path.now None
