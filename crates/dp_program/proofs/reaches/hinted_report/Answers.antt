use Rattle.std.proofs.Common.{ap, ◌∙◌, subst}
use Rattle.dp_answer.specs.Asks.{AskOf}
use Rattle.dp_app.specs.Rows.{with_functions}
use Rattle.dp_program.specs.Reaches.{IsReported, hint_of}
use Rattle.dp_program.proofs.reaches.hinted_report.Goals as goal

pub returns : goal.returns
returns g c = record {
  report = subst (λ (ask : AskOf). IsReported c.args.options.is_json (with_functions g.T.AppTable.rows g.T.Functions.Functions.table) (record { plan = c.args.files.now.plan; queues = c.args.files.now.queues }) ask
      (record { text = c.in_ok-report.report.text.items; status = c.in_ok-report.report.status })) c.ask_of-ask.ensures c.in_ok-report.ensures;
  told = c.in_ok-hint.ensures ∙ ap (λ (ask : AskOf). hint_of c.args.question.now.file.now ask c.args.options.explains c.args.files.now.plan) c.ask_of-ask.ensures;
}
