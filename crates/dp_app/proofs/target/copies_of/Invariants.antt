use Rattle.std.proofs.Common.{◌≡◌, map, take}
use Rattle.dp_app.proofs.target.copies_of.Given as goal

-- the texts so far are those of the parts so far
abbrev pub invariant-loop-part : goal.invariant-loop-part
invariant-loop-part l = l.texts.items ≡ map (λ part. part.now) (take l.part-index l.initial.parts)
