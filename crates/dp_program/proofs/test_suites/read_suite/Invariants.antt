use Rattle.std.proofs.Common.{drop, map}
use Rattle.dp_program.specs.TestSuites.{AreRead, SuiteOf, no_files, suite_now}
use Rattle.dp_program.specs.TestTexts.{text_in}
use Rattle.dp_program.proofs.test_suites.read_suite.Given as goal

-- what follows from the files left follows from all files
abbrev pub invariant-loop-source : goal.invariant-loop-source
invariant-loop-source g l =
    (after : SuiteOf) → AreRead (g.F.ReadFiles.source_at l.files) (map text_in (drop l.source-index l.sources)) (suite_now l.suite) after
    → AreRead (g.F.ReadFiles.source_at l.files) (map text_in l.sources) no_files after
