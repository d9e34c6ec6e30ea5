use Rattle.std.proofs.Common.{◌≡◌, ◌++◌, map}
use Rattle.std.specs.List.{range_with_len}
use Rattle.dp_graph.specs.Boxes.{box_at}
use Rattle.dp_graph.specs.Printing.{boxes_text}
use Rattle.dp_graph.specs.Shading.{shading_now}
use Rattle.dp_graph.proofs.boxes.push_boxes.Given as goal

-- the boxes so far are added
abbrev pub invariant-loop-number : goal.invariant-loop-number
invariant-loop-number l =
    l.out.items ≡ l.fn.out.items ++ boxes_text (map (box_at l.plan (shading_now l.shading)) (range_with_len 0 l.number))
