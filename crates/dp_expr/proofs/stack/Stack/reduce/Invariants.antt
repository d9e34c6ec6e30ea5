use Rattle.std.proofs.Common.{◌≡◌, length}
use Rattle.dp_expr.specs.steps.Texts.{value_seen}
use Rattle.dp_expr.specs.Walk.{reduction}
use Rattle.dp_expr.specs.steps.Exact.{values_by}
use Rattle.dp_expr.specs.steps.Frames.{frames_seen}
use Rattle.dp_expr.proofs.stack.Stack.reduce.Given as goal

abbrev pub invariant-loop-frame : goal.invariant-loop-frame
invariant-loop-frame l =
    reduction (values_by l.division) l.level (frames_seen l.self.frames.items) (value_seen l.value) ≡ reduction (values_by l.division) l.level (frames_seen l.initial.self.frames.items) (value_seen l.initial.value)

abbrev pub decreases-loop-frame : goal.decreases-loop-frame
decreases-loop-frame l = length (frames_seen l.self.frames.items)
