use Rattle.std.proofs.Common.{◌≡◌, ◌∷◌, ◌++◌, take}
use Rattle.std.specs.List.{flat_map}
use Rattle.dp_wide.proofs.texts.push_each.Given as goal

abbrev pub invariant-loop-part : goal.invariant-loop-part
invariant-loop-part l = l.joined.items ≡ l.initial.joined.items ++ flat_map (λ part. l.delimiter ∷ part.now) (take l.part-index l.parts)
