use Rattle.std.proofs.Common.{◌≡◌}
use Rattle.std.specs.List.{flat_map, range_with_len}
use Rattle.dp_notices.specs.MacroEnds.{ends_at}
use Rattle.dp_notices.proofs.macro_ends.macro_ends.Given as goal

abbrev pub invariant-loop-number : goal.invariant-loop-number
invariant-loop-number l = l.ends.items ≡ flat_map (ends_at l.loaded.plan l.loaded.lines) (range_with_len 0 l.number)
