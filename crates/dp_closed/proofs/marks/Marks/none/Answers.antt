use Rattle.std.proofs.Common.{◌≤◌, List, length, map, subst}
use Rattle.dp_closed.proofs.MarkLemmas.{all-rows, bits_of, none-is_marked, places-are}
use Rattle.dp_plan.specs.Contexts.{PlanContext}
use Rattle.dp_closed.proofs.marks.Marks.none.Goals as goal

pub returns-clause-none : goal.returns-clause-none
returns-clause-none c = none-is_marked c.args.plan.now.contexts c.loop-context.rows.items
    (all-rows c.args.plan.now.contexts (map bits_of c.loop-context.rows.items) c.loop-context.context-index
    (subst (λ (cs : List PlanContext). length cs ≤ c.loop-context.context-index) c.contexts-context-items.ensures c.loop-context-test.false) c.loop-context.invariant)

pub returns-clause-places : goal.returns-clause-places
returns-clause-places c = places-are c.args.plan.now c.loop-context.rows.items
    (all-rows c.args.plan.now.contexts (map bits_of c.loop-context.rows.items) c.loop-context.context-index
    (subst (λ (cs : List PlanContext). length cs ≤ c.loop-context.context-index) c.contexts-context-items.ensures c.loop-context-test.false) c.loop-context.invariant)
