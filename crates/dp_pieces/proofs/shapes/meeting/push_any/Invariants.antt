use Rattle.std.proofs.Common.{◌≡◌, ◌++◌, drop}
use Rattle.dp_pieces.specs.Met.{met_classes}
use Rattle.dp_pieces.specs.Pieces.{any_bytes_of}
use Rattle.dp_pieces.specs.Sets.{set_by}
use Rattle.dp_pieces.specs.ShapeSteps.{AreAllBytes}
use Rattle.dp_pieces.specs.Shown.{shown_all}
use Rattle.dp_pieces.proofs.shapes.meeting.push_any.Given as goal

abbrev pub invariant-loop-class : goal.invariant-loop-class
invariant-loop-class l = record {
  bytes : AreAllBytes (drop l.class-index l.classes);
  met : shown_all l.pieces.items ++ met_classes (any_bytes_of (set_by l.set)) (drop l.class-index l.classes) l.tail
      ≡ shown_all l.fn.pieces.items ++ met_classes (any_bytes_of (set_by l.set)) l.classes l.tail;
}
