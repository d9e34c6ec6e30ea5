use Rattle.dp_pieces.proofs.FitsLemmas.{fits-part}
use Rattle.dp_pieces.proofs.TrimmedLemmas.{fits-without_end_blanks}
use Rattle.dp_pieces.proofs.laws.parts_fit.Goals as goal

pub returns-clause-part : goal.returns-clause-part
returns-clause-part c = fits-part

pub returns-clause-trimmed : goal.returns-clause-trimmed
returns-clause-trimmed c = fits-without_end_blanks
