use Rattle.std.proofs.Common.{◌≡◌, ◌++◌, None, false}
use Rattle.dp_notices.specs.GroupNames.{lines_after, notices_after}
use Rattle.dp_notices.proofs.group_names.name_lines.Given as goal

abbrev pub invariant-loop-line : goal.invariant-loop-line
invariant-loop-line l = record {
  lines : l.named.lines.items ++ lines_after l.globals l.within l.extension l.line-iterator.rest.items ≡ lines_after l.globals false None l.fn.lines.items;
  notices : l.named.notices.items ++ notices_after l.globals l.within l.extension l.line-iterator.rest.items ≡ notices_after l.globals false None l.fn.lines.items;
}
