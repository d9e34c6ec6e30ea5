use Rattle.std.proofs.Common.{sym, subst}
use Rattle.std.specs.List.{flat_map}
use Rattle.dp_wide_runs.specs.Mentions.{Adds, context_mentions, entry_mentions}
use Rattle.dp_wide_runs.proofs.MentionsLemmas.{adds_end, adds_next}
use Rattle.dp_wide_runs.proofs.mentions.Mentions.add_contexts.Goals as goal

pub loop-context-preserved : goal.loop-context-preserved
loop-context-preserved c last rest =
    c.loop-context.invariant last
    (adds_next context_mentions c.loop-context.self c.add_entries.new.self last c.args.contexts.now c.loop-context.context-index c.context-item.result
    c.loop-context-test.true (sym c.context-item.is) (subst (λ es. Adds c.loop-context.self c.add_entries.new.self (flat_map entry_mentions es)) c.entries.ensures c.in_ok-add_entries.ensures) rest)

pub returns : goal.returns
returns c = c.loop-context.invariant c.loop-context.self (adds_end context_mentions c.loop-context.self c.args.contexts.now c.loop-context.context-index c.loop-context-test.false)
