use Rattle.std.proofs.Common.{[], ◌∷◌, drop}
use Rattle.std.specs.List.{flat_map}
use Rattle.dp_plan.specs.declared.plan.GlobalVariable.{GlobalVariable}
use Rattle.dp_audit.specs.Unset.{Adds}
use Rattle.dp_audit.specs.declared.unset_variables.SetNames.{SetNames}
use Rattle.dp_audit.proofs.unset_variables.SetNames.add_globals.Given as goal

abbrev pub invariant-loop-global : goal.invariant-loop-global
invariant-loop-global l = (last : SetNames) → Adds l.self last (flat_map (λ (global : GlobalVariable). global.name ∷ []) (drop l.global-index l.globals)) → Adds l.initial.self last (flat_map (λ (global : GlobalVariable). global.name ∷ []) l.globals)
