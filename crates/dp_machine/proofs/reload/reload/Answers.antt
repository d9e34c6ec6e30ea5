use Rattle.std.proofs.Common.{rules}
use Rattle.dp_machine.proofs.reload.reload.Goals as goal

pub returns-in_ok-replace-in-Some : goal.returns-in_ok-replace-in-Some
returns-in_ok-replace-in-Some g c = search rules

pub returns-in-None : goal.returns-in-None
returns-in-None g c = search rules
