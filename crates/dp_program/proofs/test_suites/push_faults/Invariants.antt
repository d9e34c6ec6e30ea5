use Rattle.std.proofs.Common.{◌≡◌, ◌++◌, drop}
use Rattle.std.specs.List.{flat_map}
use Rattle.dp_program.specs.TestFiles.{fault_line}
use Rattle.dp_program.proofs.test_suites.push_faults.Given as goal

abbrev pub invariant-loop-fault : goal.invariant-loop-fault
invariant-loop-fault l =
    l.out.items ++ flat_map (fault_line l.path) (drop l.fault-index l.faults) ≡ l.fn.out.items ++ flat_map (fault_line l.path) l.faults
