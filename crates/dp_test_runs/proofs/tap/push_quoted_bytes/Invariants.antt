use Rattle.std.proofs.Common.{◌≡◌, ◌++◌, drop}
use Rattle.std.specs.List.{flat_map}
use Rattle.dp_test_runs.specs.Tap.{quoted_byte}
use Rattle.dp_test_runs.proofs.tap.push_quoted_bytes.Given as goal

abbrev pub invariant-loop-byte : goal.invariant-loop-byte
invariant-loop-byte l = l.out.items ++ flat_map quoted_byte (drop l.byte-index l.text) ≡ l.fn.out.items ++ flat_map quoted_byte l.text
