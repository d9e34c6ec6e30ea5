use Rattle.std.proofs.Common.{rules}
use Rattle.dp_machine.proofs.exchange.renew.Goals as goal

pub returns-clause-globals : goal.returns-clause-globals
returns-clause-globals g c = search rules
