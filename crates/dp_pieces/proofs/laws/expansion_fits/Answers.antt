use Rattle.dp_pieces.proofs.TextLemmas.{fits-expansion}
use Rattle.dp_pieces.proofs.laws.expansion_fits.Goals as goal

pub returns : goal.returns
returns c = λ names sight text seen. fits-expansion names sight seen text
