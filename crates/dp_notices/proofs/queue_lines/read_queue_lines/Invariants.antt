use Rattle.std.proofs.Common.{◌≡◌, ◌++◌, false}
use Rattle.dp_notices.specs.QueueLines.{queue_lines, queue_notes}
use Rattle.dp_notices.proofs.queue_lines.read_queue_lines.Given as goal

abbrev pub invariant-loop-line : goal.invariant-loop-line
invariant-loop-line l = record {
  lines : l.made.lines.items ++ queue_lines l.within l.line-iterator.rest.items ≡ queue_lines false l.fn.lines.items;
  notices : l.made.notices.items ++ queue_notes l.within l.line-iterator.rest.items ≡ queue_notes false l.fn.lines.items;
}
