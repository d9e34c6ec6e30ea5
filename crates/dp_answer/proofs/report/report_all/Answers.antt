use Rattle.std.proofs.Common.{refl}
use Rattle.dp_answer.specs.Reports.{ToldText}
use Rattle.dp_answer.specs.Steps.{shown_report}
use Rattle.dp_answer.proofs.AnswerLemmas.{told-all}
use Rattle.dp_answer.proofs.report.report_all.Goals as goal

pub returns : goal.returns
returns g c = told-all c.args.plan.now c.args.text.items _ _ (record { chains = c.in_ok-told.told.chains.items; tail = c.in_ok-told.told.tail.items })
    (shown_report (record { text = c.push_answers.new.out; status = 0 })) c.answers.ensures c.in_ok-push_answers.ensures refl
