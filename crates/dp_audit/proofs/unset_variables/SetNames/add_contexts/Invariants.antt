use Rattle.std.proofs.Common.{drop}
use Rattle.std.specs.List.{flat_map}
use Rattle.dp_plan.specs.Contexts.{PlanContext}
use Rattle.dp_audit.specs.Unset.{Adds, entry_sets}
use Rattle.dp_audit.specs.declared.unset_variables.SetNames.{SetNames}
use Rattle.dp_audit.proofs.unset_variables.SetNames.add_contexts.Given as goal

abbrev pub invariant-loop-context : goal.invariant-loop-context
invariant-loop-context l = (last : SetNames) → Adds l.self last (flat_map (λ (context : PlanContext). flat_map entry_sets context.entries) (drop l.context-index l.contexts)) → Adds l.initial.self last (flat_map (λ (context : PlanContext). flat_map entry_sets context.entries) l.contexts)
