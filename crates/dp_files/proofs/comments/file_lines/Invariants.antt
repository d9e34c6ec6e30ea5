use Rattle.std.proofs.Common.{◌≡◌, ◌+◌, ◌≤◌, length, IfSome}
use Rattle.dp_files.specs.Comments.{lines_after, file_lines}
use Rattle.dp_files.specs.LineSteps.{parts_from}
use Rattle.dp_files.proofs.CommentsLemmas.{with_lines, left_from}
use Rattle.dp_files.proofs.comments.file_lines.Given as goal

abbrev pub invariant-loop-next : goal.invariant-loop-next
invariant-loop-next l = record {
  counted : l.line + left_from (length l.text) l.next ≤ length l.fn.text + 1;
  within : IfSome l.next (λ start. start ≤ length l.text);
  whole : with_lines l.texts.items (lines_after l.line l.open (parts_from l.text l.next)) ≡ file_lines l.fn.text;
}

abbrev pub decreases-loop-next : goal.decreases-loop-next
decreases-loop-next l = left_from (length l.text) l.next
