use Rattle.std.proofs.Common.{◌≡◌, ◌++◌, drop, map}
use Rattle.dp_tests.specs.Meanings.{dials}
use Rattle.dp_tests.proofs.events.push_digits.Given as goal

abbrev pub invariant-loop-digit : goal.invariant-loop-digit
invariant-loop-digit l = l.turns ++ map (dials l.channel) (drop l.digit-index l.digits) ≡ l.fn.turns ++ map (dials l.channel) l.digits
