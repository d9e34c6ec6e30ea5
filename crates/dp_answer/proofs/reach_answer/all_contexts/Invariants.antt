use Rattle.std.proofs.Common.{◌≡◌, map, option_map}
use Rattle.std.specs.Prelude.{filter}
use Rattle.std.specs.List.{range_with_len}
use Rattle.dp_answer.specs.ReachAnswers.{entries_by_context}
use Rattle.dp_answer.specs.Reached.{ids_at}
use Rattle.dp_closed.specs.Answers.{answers_in}
use Rattle.dp_answer.proofs.reach_answer.all_contexts.Given as goal

-- the answers of each context so far
abbrev pub invariant-loop-number : goal.invariant-loop-number
invariant-loop-number l =
    entries_by_context l.contexts.items
    ≡ map (λ number. filter (answers_in (option_map (λ marks. marks.now) l.answers)) (ids_at l.plan number)) (range_with_len 0 l.number)
