use Rattle.std.proofs.Common.{◌≡◌, drop, fold}
use Rattle.dp_test_runs.specs.Tests.{last_line}
use Rattle.dp_test_runs.proofs.test_run.last_line.Given as goal

abbrev pub invariant-loop-line : goal.invariant-loop-line
invariant-loop-line l = fold (λ number line. line.line) l.number (drop l.line-index l.test.lines) ≡ last_line l.test
