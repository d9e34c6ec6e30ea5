use Rattle.std.proofs.Common.{drop, map}
use Rattle.dp_program.specs.TestSuites.{ResultsOf, Run, no_results, ready_now, results_now}
use Rattle.dp_program.proofs.test_results.run_suite.Given as goal

-- what follows from the files left follows from all files
abbrev pub invariant-loop-file : goal.invariant-loop-file
invariant-loop-file l =
    (after : ResultsOf) → Run (map ready_now (drop l.file-index l.tests)) (results_now l.results) after → Run (map ready_now l.tests) no_results after
