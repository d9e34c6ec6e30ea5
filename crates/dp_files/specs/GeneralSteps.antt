-- A step of the code: the results of the lines of `[general]` that were read, with those of the remaining lines.
use Rattle.std.specs.Prelude.{ℕ, List, ◌++◌}
use Rattle.dp_files.specs.GeneralLines.{general_lines, general_remarks}
use Rattle.dp_files.specs.declared.made_text.MadeText.{MadeText}
use Rattle.dp_files.specs.declared.remark.LineRemark.{LineRemark}
use Rattle.dp_files.specs.declared.source_line.MadeLine.{MadeLine}

-- the results so far with those of the remaining lines
abbrev pub results_with_rest : MadeText → List (ℕ × List ℕ) → List MadeLine × List LineRemark
results_with_rest text rest = (text.lines.items ++ general_lines rest, text.remarks.items ++ general_remarks rest)
