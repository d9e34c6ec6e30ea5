use Rattle.std.proofs.Common.{ap}
use Rattle.dp_pieces.proofs.names_at.NamesAt.caller.Goals as goal

pub returns : goal.returns
returns c = λ b. ap (λ set. set b) c.caller.ensures
