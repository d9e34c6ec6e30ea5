use Rattle.std.proofs.Common.{length}
use Rattle.dp_pattern.specs.Kept.{parts_meaning}
use Rattle.dp_pattern.specs.Walk.{classes_of, tail_of}
use Rattle.dp_pieces.specs.Sets.{set_by}
use Rattle.dp_pieces.specs.ShapeSteps.{AlwaysTakesWithin, AreAllBytes}
use Rattle.dp_pieces.proofs.shapes.matching.all_hold.Given as goal

abbrev pub invariant-loop-place : goal.invariant-loop-place
invariant-loop-place l = record {
  bytes : AreAllBytes (classes_of (parts_meaning l.rest));
  takes : AlwaysTakesWithin (set_by l.set) l.more (classes_of (parts_meaning l.rest)) (tail_of (parts_meaning l.rest))
      → AlwaysTakesWithin (set_by l.set) l.least (classes_of (parts_meaning l.fn.parts)) (tail_of (parts_meaning l.fn.parts));
}

abbrev pub decreases-loop-place : goal.decreases-loop-place
decreases-loop-place l = length (classes_of (parts_meaning l.rest))
