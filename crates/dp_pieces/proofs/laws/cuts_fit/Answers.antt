use Rattle.dp_pieces.proofs.CutLemmas.{cut-level, cut-pieces}
use Rattle.dp_pieces.proofs.LastLemmas.{known-fits, last-fits}
use Rattle.dp_pieces.proofs.laws.cuts_fit.Goals as goal

pub returns-clause-first : goal.returns-clause-first
returns-clause-first c = cut-pieces

pub returns-clause-level : goal.returns-clause-level
returns-clause-level c = cut-level

pub returns-clause-last : goal.returns-clause-last
returns-clause-last c = last-fits

pub returns-clause-known : goal.returns-clause-known
returns-clause-known c = known-fits
