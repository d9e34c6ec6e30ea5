use Rattle.std.proofs.Common.{◌≡◌, ◌++◌, length}
use Rattle.std.specs.List.{flat_map}
use Rattle.dp_audit.specs.Candidates.{extensions}
use Rattle.dp_graph.specs.Boxes.{rows_of}
use Rattle.dp_graph.specs.Printing.{row_text}
use Rattle.dp_graph.specs.Shading.{shading_now}
use Rattle.dp_graph.proofs.boxes.push_extensions.Given as goal

-- with the rows of the rest, all rows are added
abbrev pub invariant-loop-rest : goal.invariant-loop-rest
invariant-loop-rest l =
    l.out.items ++ flat_map row_text (flat_map (rows_of l.plan (shading_now l.shading)) (extensions l.plan l.rest))
    ≡ l.fn.out.items ++ flat_map row_text (flat_map (rows_of l.plan (shading_now l.shading)) (extensions l.plan l.ids))

abbrev pub decreases-loop-rest : goal.decreases-loop-rest
decreases-loop-rest l = length l.rest
