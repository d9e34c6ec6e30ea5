use Rattle.std.proofs.Common.{◌≡◌, ◌+◌, ◌*◌, ◌≤◌, drop}
use Rattle.dp_notices.specs.LineNotices.{faults_in}
use Rattle.dp_notices.proofs.line_notices.count_faults.Given as goal

abbrev pub invariant-loop-line : goal.invariant-loop-line
invariant-loop-line l = record {
  sum : l.count + faults_in (drop l.line-index l.lines) ≡ faults_in l.lines;
  bound : l.count ≤ l.line-index * 18446744073709551615;
}
