use Rattle.std.proofs.Common.{◌≡◌, ◌∷◌, ◌++◌, drop, map}
use Rattle.dp_answer.proofs.ask_parts.given_names.Given as goal

abbrev pub invariant-loop-argument : goal.invariant-loop-argument
invariant-loop-argument l = map (λ name. name.items) l.names.items ++ map (λ argument. argument.now) (drop l.argument-index l.argument-items)
    ≡ l.context ∷ map (λ argument. argument.now) l.argument-items
