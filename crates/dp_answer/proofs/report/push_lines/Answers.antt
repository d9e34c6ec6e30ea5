use Rattle.std.proofs.Common.{◌++◌, ap, ◌∙◌, option_map}
use Rattle.dp_answer.specs.Reports.{id_at, line_of}
use Rattle.dp_closed.specs.Answers.{answers_in}
use Rattle.dp_answer.proofs.ReportLemmas.{told-next}
use Rattle.dp_answer.proofs.report.push_lines.Goals as goal

pub loop-entry-preserved : goal.loop-entry-preserved
loop-entry-preserved c =
    c.in_ok-push_line.ensures
    ∙ (ap (λ lines. lines ++ line_of c.args.plan.now (answers_in (option_map (λ marks. marks.now) c.args.answers)) (id_at c.args.number c.loop-entry.entry)) c.loop-entry.invariant
    ∙ told-next (λ entry. line_of c.args.plan.now (answers_in (option_map (λ marks. marks.now) c.args.answers)) (id_at c.args.number entry)) c.args.out.now.items c.loop-entry.entry)
