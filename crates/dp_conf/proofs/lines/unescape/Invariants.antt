use Rattle.std.proofs.Common.{◌≡◌, ◌++◌, length}
use Rattle.dp_conf.specs.Lines.{without_escapes}
use Rattle.dp_conf.proofs.lines.unescape.Given as goal

abbrev pub invariant-loop-byte : goal.invariant-loop-byte
invariant-loop-byte l = l.plain.items ++ without_escapes l.left ≡ without_escapes l.bytes

abbrev pub decreases-loop-byte : goal.decreases-loop-byte
decreases-loop-byte l = length l.left
