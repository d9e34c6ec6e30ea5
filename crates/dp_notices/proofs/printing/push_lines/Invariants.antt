use Rattle.std.proofs.Common.{◌≡◌, ◌++◌, drop}
use Rattle.dp_notices.specs.Printing.{lines_text}
use Rattle.dp_notices.proofs.printing.push_lines.Given as goal

abbrev pub invariant-loop-noted : goal.invariant-loop-noted
invariant-loop-noted l =
    l.out.items ++ lines_text l.shown l.files (drop l.noted-index l.lines) ≡ l.fn.out.items ++ lines_text l.shown l.files l.lines
