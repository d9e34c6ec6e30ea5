use Rattle.std.proofs.Common.{◌≡◌, ◌||◌, ℕ, length}
use Rattle.dp_answer.specs.Ranges.{ranges}
use Rattle.dp_pieces.specs.Sets.{set_by}
use Rattle.dp_answer.proofs.ranges.set_of_ranges.Given as goal

abbrev pub invariant-loop-low : goal.invariant-loop-low
invariant-loop-low l = (b : ℕ) → (set_by l.set b || ranges l.left b) ≡ ranges l.text b

abbrev pub decreases-loop-low : goal.decreases-loop-low
decreases-loop-low l = length l.left
