use Rattle.std.proofs.Common.{◌≡◌, ◌++◌, option_map}
use Rattle.std.specs.List.{flat_map, range_with_len}
use Rattle.dp_answer.specs.Reports.{chain_at, lines_of}
use Rattle.dp_closed.specs.Answers.{answers_in}
use Rattle.dp_answer.proofs.report.push_all.Given as goal

abbrev pub invariant-loop-number : goal.invariant-loop-number
invariant-loop-number l = l.out.items
    ≡ l.fn.out.items ++ flat_map (λ number. lines_of l.plan (answers_in (option_map (λ marks. marks.now) l.answers)) number ++ chain_at l.chains number) (range_with_len 0 l.number)
