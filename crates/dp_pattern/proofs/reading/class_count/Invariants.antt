use Rattle.std.proofs.Common.{◌≡◌, ◌+◌, ◌≤◌, length}
use Rattle.dp_pattern.specs.Name.{pieces_of}
use Rattle.dp_pattern.specs.Kept.{class_count}
use Rattle.dp_pattern.proofs.reading.class_count.Given as goal

abbrev pub invariant-loop-piece : goal.invariant-loop-piece
invariant-loop-piece l = record {
  bound : l.count + length l.rest ≤ length l.fn.text;
  whole : l.count + class_count (pieces_of l.rest) ≡ class_count (pieces_of l.fn.text);
}

abbrev pub decreases-loop-piece : goal.decreases-loop-piece
decreases-loop-piece l = length l.rest
