use Rattle.std.proofs.Common.{◌≡◌, ◌++◌, drop}
use Rattle.std.specs.List.{flat_map}
use Rattle.dp_test_runs.specs.Tap.{name_byte}
use Rattle.dp_test_runs.proofs.tap.push_name.Given as goal

abbrev pub invariant-loop-byte : goal.invariant-loop-byte
invariant-loop-byte l = l.out.items ++ flat_map name_byte (drop l.byte-index l.name) ≡ l.fn.out.items ++ flat_map name_byte l.name
