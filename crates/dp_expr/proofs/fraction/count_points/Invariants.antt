use Rattle.std.proofs.Common.{◌≡◌, ◌==◌, count_by, take}
use Rattle.dp_expr.specs.Ascii.{point}
use Rattle.dp_expr.proofs.fraction.count_points.Given as goal

abbrev pub invariant-loop-byte : goal.invariant-loop-byte
invariant-loop-byte l = l.count ≡ count_by (λ b. b == point) (take l.byte-index l.text)
