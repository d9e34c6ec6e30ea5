use Rattle.dp_audit.proofs.PiecesLemmas.{never_unused}
use Rattle.dp_audit.proofs.pieces.standing_label_is_never_unused.Goals as goal

pub returns : goal.returns
returns c = never_unused
