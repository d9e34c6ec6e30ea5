use Rattle.std.proofs.Common.{◌≡◌, ◌++◌}
use Rattle.dp_notices.specs.MacroEnds.{made_ends}
use Rattle.dp_notices.proofs.macro_ends.made_ends.Given as goal

abbrev pub invariant-loop-line : goal.invariant-loop-line
invariant-loop-line l = l.made.items ++ made_ends l.lines l.line-iterator.rest.items ≡ made_ends l.lines l.fn.added.items
