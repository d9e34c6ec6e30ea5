use Rattle.std.proofs.Common.{◌≡◌, ◌++◌, drop}
use Rattle.std.specs.List.{flat_map}
use Rattle.dp_program.specs.TestSuites.{other_line}
use Rattle.dp_program.proofs.test_pictures.push_others.Given as goal

abbrev pub invariant-loop-run : goal.invariant-loop-run
invariant-loop-run l =
    l.out.items ++ flat_map (other_line l.drawn) (drop l.run-index l.runs) ≡ l.fn.out.items ++ flat_map (other_line l.drawn) l.runs
