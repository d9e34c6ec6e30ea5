use Rattle.std.proofs.Common.{◌≡◌, ◌++◌, drop, map}
use Rattle.std.specs.List.{flat_map}
use Rattle.dp_program.specs.TestFiles.{named_now, reloads_in}
use Rattle.dp_program.proofs.test_inputs.push_reloads_of.Given as goal

abbrev pub invariant-loop-test : goal.invariant-loop-test
invariant-loop-test l =
    map named_now l.named.items ++ flat_map reloads_in (drop l.test-index l.tests) ≡ map named_now l.fn.named.items ++ flat_map reloads_in l.tests
