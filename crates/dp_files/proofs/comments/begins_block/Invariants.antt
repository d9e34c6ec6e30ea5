use Rattle.std.proofs.Common.{ℕ, length}
use Rattle.dp_files.proofs.CommentsLemmas.{Stands}
use Rattle.dp_files.proofs.comments.begins_block.Given as goal

-- the line stands if what is left of it does
abbrev pub invariant-loop-byte : goal.invariant-loop-byte
invariant-loop-byte l = (line : ℕ) → Stands line l.previous l.left → Stands line 10 l.fn.part

abbrev pub decreases-loop-byte : goal.decreases-loop-byte
decreases-loop-byte l = length l.left
