use Rattle.std.proofs.Common.{length}
use Rattle.dp_pattern.specs.Kept.{parts_meaning}
use Rattle.dp_pattern.specs.Walk.{classes_of, tail_of}
use Rattle.dp_pieces.specs.ShapeSteps.{AlwaysTakes, AreAllBytes}
use Rattle.dp_pieces.specs.Shown.{shown_all}
use Rattle.dp_pieces.proofs.shapes.matching.all_meet.Given as goal

abbrev pub invariant-loop-place : goal.invariant-loop-place
invariant-loop-place l = record {
  bytes : AreAllBytes (classes_of (parts_meaning l.rest));
  takes : AlwaysTakes (shown_all l.left) (classes_of (parts_meaning l.rest)) (tail_of (parts_meaning l.rest))
      → AlwaysTakes (shown_all l.pieces) (classes_of (parts_meaning l.fn.parts)) (tail_of (parts_meaning l.fn.parts));
}

abbrev pub decreases-loop-place : goal.decreases-loop-place
decreases-loop-place l = length (classes_of (parts_meaning l.rest))
