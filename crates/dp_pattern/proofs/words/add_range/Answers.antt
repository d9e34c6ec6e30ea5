use Rattle.std.proofs.Common.{◌≡◌, ◌+◌, arith}
use Rattle.std.proofs.lemmas.Bool.Decides.{nat_tests}
use Rattle.dp_pattern.proofs.words.add_range.Goals as goal

pub returns : goal.returns
returns c = λ b h.
    let done : c.loop-byte.byte ≡ c.args.to + 1 = omega arith in
    let so_far = c.loop-byte.invariant b h in
    grind (arith, nat_tests)
