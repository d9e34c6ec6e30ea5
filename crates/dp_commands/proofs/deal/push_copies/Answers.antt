use Rattle.std.proofs.Common.{rules}
use Rattle.dp_commands.proofs.ThreadsLemmas.{events_in-events}
use Rattle.dp_commands.proofs.deal.push_copies.Goals as goal

pub returns : goal.returns
returns c = search (rules, events_in-events c.args.count c.args.event.now)
