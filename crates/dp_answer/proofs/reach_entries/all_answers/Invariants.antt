use Rattle.std.proofs.Common.{◌≡◌, option_map}
use Rattle.std.specs.Prelude.{filter}
use Rattle.std.specs.List.{flat_map, range_with_len}
use Rattle.dp_answer.specs.Reached.{ids_at}
use Rattle.dp_closed.specs.Answers.{answers_in}
use Rattle.dp_answer.proofs.reach_entries.all_answers.Given as goal

abbrev pub invariant-loop-number : goal.invariant-loop-number
invariant-loop-number l = l.entries.items
    ≡ filter (answers_in (option_map (λ marks. marks.now) l.answers)) (flat_map (ids_at l.plan) (range_with_len 0 l.number))
