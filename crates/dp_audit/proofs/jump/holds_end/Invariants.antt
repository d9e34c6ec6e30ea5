use Rattle.std.proofs.Common.{◌≡◌, drop}
use Rattle.std.specs.List.{list_any}
use Rattle.dp_audit.specs.Targets.{ends_group}
use Rattle.dp_audit.proofs.jump.holds_end.Given as goal

abbrev pub invariant-loop-byte : goal.invariant-loop-byte
invariant-loop-byte l = list_any ends_group (drop l.byte-index l.text) ≡ list_any ends_group l.text
