use Rattle.std.proofs.Common.{◌≡◌, ◌++◌, [], drop, take}
use Rattle.dp_program.specs.TestSuites.{coverage_after}
use Rattle.dp_program.proofs.plan_coverage.push_each_coverage.Given as goal

abbrev pub invariant-loop-run : goal.invariant-loop-run
invariant-loop-run l = record {
  counted : l.count ≡ l.run-index;
  written : l.out.items ++ coverage_after l.is_json l.runs (take l.run-index l.runs) (drop l.run-index l.runs) ≡ l.fn.out.items ++ coverage_after l.is_json l.runs [] l.runs;
}
