use Rattle.std.proofs.Common.{◌≡◌, take}
use Rattle.std.specs.List.{flat_map}
use Rattle.dp_plan.specs.steps.Draft.{remark_notes}
use Rattle.dp_plan.proofs.remark.settle.Given as goal

abbrev pub invariant-loop-remark : goal.invariant-loop-remark
invariant-loop-remark l = l.notes.items ≡ flat_map (remark_notes l.names.keys) (take l.remark-index l.remarks)
