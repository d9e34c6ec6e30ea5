use Rattle.std.proofs.Common.{◌≡◌, drop, fold}
use Rattle.dp_test_runs.specs.Tests.{expected_by, is_expected}
use Rattle.dp_test_runs.proofs.test_run.is_expected.Given as goal

abbrev pub invariant-loop-line : goal.invariant-loop-line
invariant-loop-line l =
    fold (λ expected line. expected_by l.channel expected line.act) l.expected (drop l.line-index l.lines) ≡ is_expected l.lines l.channel
