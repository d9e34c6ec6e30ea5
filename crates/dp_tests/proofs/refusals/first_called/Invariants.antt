use Rattle.std.proofs.Common.{◌≡◌, drop}
use Rattle.std.specs.List.{find}
use Rattle.dp_tests.specs.Expectations.{is_called}
use Rattle.dp_tests.proofs.refusals.first_called.Given as goal

abbrev pub invariant-loop-refusal : goal.invariant-loop-refusal
invariant-loop-refusal l = find (is_called l.word) (drop l.refusal-index l.refusals) ≡ find (is_called l.word) l.refusals
