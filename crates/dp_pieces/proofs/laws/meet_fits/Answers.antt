use Rattle.dp_pieces.proofs.MetLemmas.{fits-after_match, part-after_match}
use Rattle.dp_pieces.proofs.laws.meet_fits.Goals as goal

pub returns-clause-fits : goal.returns-clause-fits
returns-clause-fits c = fits-after_match

pub returns-clause-bytes : goal.returns-clause-bytes
returns-clause-bytes c = part-after_match
