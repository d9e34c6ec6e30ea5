use Rattle.std.proofs.Common.{◌<◌, sym, subst, option_map, arith}
use Rattle.dp_answer.specs.Reports.{id_at}
use Rattle.dp_closed.specs.Answers.{answers_in}
use Rattle.dp_answer.proofs.ReportLemmas.{none-next, one-of}
use Rattle.dp_answer.proofs.report.has_answer.Goals as goal

pub returns-then-is_answer : goal.returns-then-is_answer
returns-then-is_answer c =
    let below : c.loop-entry.entry < c.count_at-entry-end.result = omega (arith, c.loop-entry-test.true) in
    sym (one-of (λ entry. answers_in (option_map (λ marks. marks.now) c.args.answers) (id_at c.args.number entry)) _ c.loop-entry.entry
    (subst (λ n. c.loop-entry.entry < n) c.count_at-entry-end.ensures below) (sym (c.if-is_answer.ensures {u = tt})))

pub loop-entry-preserved : goal.loop-entry-preserved
loop-entry-preserved c = none-next (λ entry. answers_in (option_map (λ marks. marks.now) c.args.answers) (id_at c.args.number entry)) c.loop-entry.entry
    c.loop-entry.invariant (sym (c.if-is_answer.ensures {u = tt}))
