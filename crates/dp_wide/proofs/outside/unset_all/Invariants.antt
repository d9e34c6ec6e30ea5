use Rattle.std.proofs.Common.{◌≡◌, map, take}
use Rattle.dp_wide.specs.Outside.{without_values}
use Rattle.dp_wide.proofs.outside.unset_all.Given as goal

abbrev pub invariant-loop-name : goal.invariant-loop-name
invariant-loop-name l = l.store ≡ without_values (map (λ name. name.now) (take l.name-index l.names)) l.initial.store
