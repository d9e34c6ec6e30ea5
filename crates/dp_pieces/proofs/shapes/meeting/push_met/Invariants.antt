use Rattle.std.proofs.Common.{◌≡◌, ◌++◌, length}
use Rattle.dp_pieces.specs.Met.{met_classes}
use Rattle.dp_pieces.specs.ShapeSteps.{AreAllBytes}
use Rattle.dp_pieces.specs.Shown.{shown_all}
use Rattle.dp_pieces.proofs.shapes.meeting.push_met.Given as goal

abbrev pub invariant-loop-class : goal.invariant-loop-class
invariant-loop-class l = record {
  bytes : AreAllBytes l.left;
  met : shown_all l.met.items ++ met_classes (shown_all l.rest) l.left l.tail ≡ shown_all l.fn.met.items ++ met_classes (shown_all l.pieces) l.classes l.tail;
}

abbrev pub decreases-loop-class : goal.decreases-loop-class
decreases-loop-class l = length l.left
