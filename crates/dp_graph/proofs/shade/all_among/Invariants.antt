use Rattle.std.proofs.Common.{◌≡◌, drop}
use Rattle.dp_graph.specs.Boxes.{all_among}
use Rattle.dp_graph.proofs.shade.all_among.Given as goal

-- those so far are among the others
abbrev pub invariant-loop-id : goal.invariant-loop-id
invariant-loop-id l = all_among l.others.keys (drop l.id-index l.ids) ≡ all_among l.others.keys l.ids
