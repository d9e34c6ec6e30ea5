use Rattle.std.proofs.Common.{◌≡◌, false, option_map}
use Rattle.std.specs.List.{list_any, range_with_len}
use Rattle.dp_answer.specs.Reports.{id_at}
use Rattle.dp_closed.specs.Answers.{answers_in}
use Rattle.dp_answer.proofs.report.has_answer.Given as goal

abbrev pub invariant-loop-entry : goal.invariant-loop-entry
invariant-loop-entry l = list_any (λ entry. answers_in (option_map (λ marks. marks.now) l.answers) (id_at l.number entry)) (range_with_len 0 l.entry) ≡ false
