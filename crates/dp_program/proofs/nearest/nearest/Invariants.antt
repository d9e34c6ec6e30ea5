use Rattle.std.proofs.Common.{◌≡◌, drop, fold, map}
use Rattle.dp_program.specs.Nearest.{kept_of, near_kept, near_of}
use Rattle.dp_program.proofs.nearest.nearest.Given as goal

abbrev pub invariant-loop-context : goal.invariant-loop-context
invariant-loop-context l =
    fold (near_kept l.name) (map near_of l.kept.items) (map (λ context. context.name) (drop l.context-index l.contexts)) ≡ kept_of l.name (map (λ context. context.name) l.contexts)
