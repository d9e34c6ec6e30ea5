use Rattle.std.proofs.Common.{ap}
use Rattle.dp_pieces.proofs.names_at.NamesAt.all.Goals as goal

pub returns : goal.returns
returns c = λ b. ap (λ set. set b) c.all.ensures
