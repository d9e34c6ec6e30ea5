use Rattle.std.proofs.Common.{◌≡◌, length}
use Rattle.dp_files.specs.Comments.{uncovered_from}
use Rattle.dp_files.proofs.CommentsLemmas.{with_front}
use Rattle.dp_files.proofs.comments.uncover_part.Given as goal

abbrev pub invariant-loop-byte : goal.invariant-loop-byte
invariant-loop-byte l = with_front l.kept.items (uncovered_from l.line 0 l.open l.previous l.left) ≡ uncovered_from l.line 0 l.fn.open 10 l.fn.part

abbrev pub decreases-loop-byte : goal.decreases-loop-byte
decreases-loop-byte l = length l.left
