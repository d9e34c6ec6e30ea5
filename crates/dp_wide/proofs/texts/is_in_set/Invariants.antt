use Rattle.std.proofs.Common.{◌≡◌, length}
use Rattle.std.specs.List.{list_any}
use Rattle.dp_wide.specs.Texts.{byte_ranges, has_byte}
use Rattle.dp_wide.proofs.texts.is_in_set.Given as goal

abbrev pub invariant-loop-range : goal.invariant-loop-range
invariant-loop-range l = list_any (has_byte l.byte) (byte_ranges l.left) ≡ list_any (has_byte l.byte) (byte_ranges l.fn.set)

abbrev pub decreases-loop-range : goal.decreases-loop-range
decreases-loop-range l = length l.left
