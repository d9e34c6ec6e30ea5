use Rattle.std.proofs.Common.{◌≡◌, [], map, take}
use Rattle.std.specs.Prelude.{nat_eq}
use Rattle.indexmap.specs.IndexSet.{insert_all}
use Rattle.dp_diff.proofs.reaches.numbers_of.Given as goal

-- the contexts of the entries so far are inserted
abbrev pub invariant-loop-id : goal.invariant-loop-id
invariant-loop-id l = l.numbers.keys ≡ insert_all nat_eq [] (map (λ id. id.context) (take l.id-index l.entries))
