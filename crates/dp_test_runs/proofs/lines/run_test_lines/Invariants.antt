use Rattle.std.proofs.Common.{◌≡◌, length}
use Rattle.dp_test_runs.specs.Tests.{ended_after}
use Rattle.dp_test_runs.proofs.lines.run_test_lines.Given as goal

-- the lines that are left end where all of them do
abbrev pub invariant-loop-rest : goal.invariant-loop-rest
invariant-loop-rest l = ended_after l.files l.course l.rest ≡ ended_after l.files l.fn.course l.lines

abbrev pub decreases-loop-rest : goal.decreases-loop-rest
decreases-loop-rest l = length l.rest
