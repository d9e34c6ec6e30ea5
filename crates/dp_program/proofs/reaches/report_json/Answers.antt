use Rattle.dp_program.proofs.reaches.report_json.Goals as goal

-- the report is that of the answer
pub returns : goal.returns
returns g c = record {
  answer = c.in_ok-answer.answer;
  right = c.in_ok-answer.ensures;
  told = c.in_ok-report.ensures;
}
