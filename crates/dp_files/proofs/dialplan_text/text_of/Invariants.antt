use Rattle.std.proofs.Common.{◌≡◌, ◌++◌, drop}
use Rattle.dp_files.specs.DialplanText.{text_of}
use Rattle.dp_files.proofs.dialplan_text.text_of.Given as goal

-- the text so far with that of the remaining lines is the text of all lines
abbrev pub invariant-loop-line : goal.invariant-loop-line
invariant-loop-line l = l.text.items ++ text_of (drop l.line-index l.lines) ≡ text_of l.lines
