use Rattle.std.proofs.Common.{◌≡◌, drop}
use Rattle.dp_graph.specs.Boxes.{some_among}
use Rattle.dp_graph.proofs.shade.some_among.Given as goal

-- those so far are not among the others
abbrev pub invariant-loop-id : goal.invariant-loop-id
invariant-loop-id l = some_among l.others.keys (drop l.id-index l.ids) ≡ some_among l.others.keys l.ids
