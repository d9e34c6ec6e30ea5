use Rattle.std.proofs.Common.{◌≡◌, take}
use Rattle.std.specs.List.{flat_map}
use Rattle.dp_graph.specs.Arrows.{each_once}
use Rattle.dp_graph.specs.Jumps.{arrows_at}
use Rattle.dp_graph.proofs.jumps.arrows_of.Given as goal

-- the arrows of the entries so far are added
abbrev pub invariant-loop-id : goal.invariant-loop-id
invariant-loop-id l = record {
  added : l.arrows.keys ≡ each_once (flat_map (arrows_at l.fn.finder l.exits) (take l.id-index l.ids));
  same : l.finder ≡ l.fn.finder;
}
