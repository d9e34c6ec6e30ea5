use Rattle.std.proofs.Common.{◌≡◌, ◌++◌, drop, map}
use Rattle.dp_test_runs.specs.Traces.{plan_lines}
use Rattle.dp_test_runs.proofs.sources.lines_of_files.Given as goal

abbrev pub invariant-loop-file : goal.invariant-loop-file
invariant-loop-file l =
    l.all ++ map (λ file. plan_lines file.text) (drop l.file-index l.files) ≡ map (λ file. plan_lines file.text) l.files
