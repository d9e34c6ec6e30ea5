use Rattle.std.proofs.Common.{◌≡◌, drop, map}
use Rattle.std.specs.Prelude.{is_none}
use Rattle.std.specs.List.{list_any}
use Rattle.dp_plan.specs.Lookup.{number_of}
use Rattle.dp_answer.proofs.ask_parts.lacks_one.Given as goal

abbrev pub invariant-loop-name : goal.invariant-loop-name
invariant-loop-name l = list_any (λ name. is_none (number_of l.plan name)) (map (λ name. name.items) (drop l.name-index l.names))
    ≡ list_any (λ name. is_none (number_of l.plan name)) (map (λ name. name.items) l.names)
