use Rattle.std.proofs.Common.{sym, subst}
use Rattle.std.specs.List.{flat_map}
use Rattle.dp_plan.specs.Contexts.{PlanContext}
use Rattle.dp_audit.specs.Unset.{Adds, entry_sets}
use Rattle.dp_audit.proofs.UnsetLemmas.{adds_end, adds_next}
use Rattle.dp_audit.proofs.unset_variables.SetNames.add_contexts.Goals as goal

pub loop-context-preserved : goal.loop-context-preserved
loop-context-preserved c last rest =
    c.loop-context.invariant last
    (adds_next (λ (context : PlanContext). flat_map entry_sets context.entries) c.loop-context.self c.add_entries.new.self last c.args.contexts.now c.loop-context.context-index c.context-item.result
    c.loop-context-test.true (sym c.context-item.is) (subst (λ es. Adds c.loop-context.self c.add_entries.new.self (flat_map entry_sets es)) c.entries.ensures c.in_ok-add_entries.ensures) rest)

pub returns : goal.returns
returns c = c.loop-context.invariant c.loop-context.self (adds_end (λ (context : PlanContext). flat_map entry_sets context.entries) c.loop-context.self c.args.contexts.now c.loop-context.context-index c.loop-context-test.false)
