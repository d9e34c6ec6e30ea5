use Rattle.std.proofs.Common.{◌≡◌, ◌++◌, drop, map}
use Rattle.std.specs.List.{flat_map}
use Rattle.dp_json.specs.Joining.{behind_separator}
use Rattle.dp_json.proofs.joining.push_names.Given as goal

-- with the rest, all names are added
abbrev pub invariant-loop-name : goal.invariant-loop-name
invariant-loop-name l =
    l.out.items ++ flat_map (behind_separator l.separator) (map (λ name. name.items) (drop l.name-index l.names))
    ≡ l.fn.out.items ++ flat_map (behind_separator l.separator) (map (λ name. name.items) l.names)
