use Rattle.std.proofs.Common.{◌≡◌, ◌++◌, take}
use Rattle.dp_graph.specs.Picture.{drawn_all, origin_view}
use Rattle.dp_graph.specs.Printing.{arrows_text}
use Rattle.dp_graph.proofs.arrows.push_all.Given as goal

-- the arrows so far are added
abbrev pub invariant-loop-arrow : goal.invariant-loop-arrow
invariant-loop-arrow l = l.out.items ≡ l.fn.out.items ++ arrows_text (drawn_all (origin_view l.origin) (take l.arrow-index l.arrows))
