use Rattle.std.proofs.Common.{◌≡◌, ◌++◌, drop, map}
use Rattle.std.specs.List.{flat_map}
use Rattle.dp_program.specs.Reaches.{told_of_name}
use Rattle.dp_program.proofs.reaches.push_names_told.Given as goal

abbrev pub invariant-loop-name : goal.invariant-loop-name
invariant-loop-name l = l.hint.items ++ flat_map (told_of_name l.told.file.now l.told.explains l.told.plan.now) (map (λ name. name.now) (drop l.name-index l.names))
    ≡ l.initial.hint.items ++ flat_map (told_of_name l.told.file.now l.told.explains l.told.plan.now) (map (λ name. name.now) l.names)
