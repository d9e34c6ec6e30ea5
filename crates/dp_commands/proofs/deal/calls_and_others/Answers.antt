use Rattle.dp_commands.proofs.ThreadsLemmas.{calls-within}
use Rattle.dp_commands.proofs.deal.calls_and_others.Goals as goal

-- the calls are among the events
pub split_at-requires : goal.split_at-requires
split_at-requires c = calls-within c.args.events.now c.leading_calls.result c.leading_calls.ensures
