use Rattle.std.proofs.Common.{◌≡◌, drop}
use Rattle.dp_pattern.specs.Dashes.{without_dashes}
use Rattle.dp_pattern.specs.Walk.{walk_after, singles}
use Rattle.dp_pattern.proofs.walk.walk_plain.Given as goal

abbrev pub invariant-loop-byte : goal.invariant-loop-byte
invariant-loop-byte l =
    walk_after (singles (drop l.byte-index l.plain)) (without_dashes l.rest) ≡ walk_after (singles l.plain) (without_dashes l.fn.text)
