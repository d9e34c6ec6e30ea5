use Rattle.std.proofs.Common.{◌≡◌, ◌++◌, map}
use Rattle.dp_notices.specs.LineNotices.{without_notices}
use Rattle.dp_notices.proofs.line_notices.without_notices.Given as goal

abbrev pub invariant-loop-line : goal.invariant-loop-line
invariant-loop-line l = l.noted.items ++ map without_notices l.line-iterator.rest.items ≡ map without_notices l.fn.lines.items
