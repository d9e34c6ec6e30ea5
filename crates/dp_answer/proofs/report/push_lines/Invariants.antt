use Rattle.std.proofs.Common.{◌≡◌, ◌++◌, option_map}
use Rattle.std.specs.List.{flat_map, range_with_len}
use Rattle.dp_answer.specs.Reports.{id_at, line_of}
use Rattle.dp_closed.specs.Answers.{answers_in}
use Rattle.dp_answer.proofs.report.push_lines.Given as goal

abbrev pub invariant-loop-entry : goal.invariant-loop-entry
invariant-loop-entry l = l.out.items
    ≡ l.fn.out.items ++ flat_map (λ entry. line_of l.plan (answers_in (option_map (λ marks. marks.now) l.answers)) (id_at l.number entry)) (range_with_len 0 l.entry)
