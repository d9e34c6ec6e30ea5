use Rattle.std.proofs.Common.{◌≡◌, ◌++◌, map, option_map}
use Rattle.std.specs.Prelude.{filter}
use Rattle.std.specs.List.{range_with_len}
use Rattle.dp_answer.specs.Reports.{id_at}
use Rattle.dp_closed.specs.Answers.{answers_in}
use Rattle.dp_answer.proofs.reach_entries.push_answers_at.Given as goal

abbrev pub invariant-loop-entry : goal.invariant-loop-entry
invariant-loop-entry l = l.entries.items
    ≡ l.fn.entries.items ++ filter (answers_in (option_map (λ marks. marks.now) l.answers)) (map (id_at l.number) (range_with_len 0 l.entry))
