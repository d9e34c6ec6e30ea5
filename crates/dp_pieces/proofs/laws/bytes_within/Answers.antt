use Rattle.dp_pieces.proofs.FitsLemmas.{fits-set}
use Rattle.dp_pieces.proofs.laws.bytes_within.Goals as goal

pub returns : goal.returns
returns c = fits-set
