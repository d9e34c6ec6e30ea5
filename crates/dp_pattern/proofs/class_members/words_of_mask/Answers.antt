use Rattle.std.proofs.Common.{◌<◌, ◌^◌, arith}
use Rattle.dp_pattern.proofs.KeptLemmas.{bits-of-mask}
use Rattle.dp_pattern.proofs.class_members.words_of_mask.Goals as goal

pub returns : goal.returns
returns c =
    let fits : c.args.mask < 2 ^ 16 = c.ranges.mask.fits in
    λ b below. bits-of-mask _ c.args.mask fits (omega (arith, fits, c.from.ensures)) b below
