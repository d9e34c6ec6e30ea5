use Rattle.std.proofs.Common.{[], ap, ◌∙◌, rules}
use Rattle.dp_answer.specs.Steps.{shown_report}
use Rattle.dp_plan.specs.Lookup.{number_of}
use Rattle.dp_answer.proofs.AnswerLemmas.{told-target}
use Rattle.dp_answer.proofs.report.report_target.Goals as goal

pub returns : goal.returns
returns g c = told-target c.args.plan.now c.args.text.items _ _ c.args.name.now c.number_of-number.result c.may_reach-may_reach.result
    (record { chains = []; tail = c.in_ok-tail.tail.items }) _
    c.answers.ensures (c.number_of-number.ensures ∙ ap (number_of c.args.plan.now) c.in_ok-target.ensures)
    c.may_reach-may_reach.ensures (search rules) (search rules)
