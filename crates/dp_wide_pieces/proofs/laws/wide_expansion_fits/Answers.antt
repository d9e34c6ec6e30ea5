use Rattle.dp_wide_pieces.proofs.ExpansionLemmas.{fits-wide}
use Rattle.dp_wide_pieces.proofs.laws.wide_expansion_fits.Goals as goal

pub returns : goal.returns
returns c = λ names sight text seen. fits-wide names sight text seen
