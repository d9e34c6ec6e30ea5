use Rattle.dp_pieces.proofs.BitLemmas.{shared-bit}
use Rattle.dp_pieces.proofs.byte_set.shared_bits.Goals as goal

pub returns : goal.returns
returns c = shared-bit c.args.word c.args.other
