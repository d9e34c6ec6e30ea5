use Rattle.std.proofs.Common.{◌≡◌, ◌++◌, drop, map}
use Rattle.dp_answer.proofs.ask_parts.all_names.Given as goal

abbrev pub invariant-loop-context : goal.invariant-loop-context
invariant-loop-context l = map (λ name. name.items) l.names.items ++ map (λ context. context.name) (drop l.context-index l.plan.contexts)
    ≡ map (λ context. context.name) l.plan.contexts
