use Rattle.dp_pieces.proofs.BitLemmas.{either-bit}
use Rattle.dp_pieces.proofs.byte_set.with_bits.Goals as goal

pub returns : goal.returns
returns c = either-bit c.args.word c.args.other
