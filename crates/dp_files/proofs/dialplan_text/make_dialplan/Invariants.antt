use Rattle.std.proofs.Common.{◌≡◌, ◌++◌, drop}
use Rattle.dp_files.specs.DialplanText.{dialplan_lines, dialplan_remarks}
use Rattle.dp_files.proofs.dialplan_text.make_dialplan.Given as goal

-- the result so far with that of the remaining sections is that of all sections
abbrev pub invariant-loop-section : goal.invariant-loop-section
invariant-loop-section l = record {
  lines : l.text.lines.items ++ dialplan_lines l.lines (drop l.section-index l.sections) ≡ dialplan_lines l.lines l.sections;
  remarks : l.text.remarks.items ++ dialplan_remarks l.lines (drop l.section-index l.sections) ≡ dialplan_remarks l.lines l.sections;
}
