use Rattle.dp_pieces.proofs.ArgumentLemmas.{fits-arguments}
use Rattle.dp_pieces.proofs.laws.arguments_fit.Goals as goal

pub returns : goal.returns
returns c = fits-arguments
