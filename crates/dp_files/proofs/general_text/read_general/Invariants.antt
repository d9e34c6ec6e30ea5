use Rattle.std.proofs.Common.{◌≡◌, drop}
use Rattle.dp_files.specs.ContextLines.{section_lines}
use Rattle.dp_files.specs.GeneralLines.{general_lines, general_remarks}
use Rattle.dp_files.specs.GeneralSteps.{results_with_rest}
use Rattle.dp_files.proofs.general_text.read_general.Given as goal

-- the results so far, with those of the remaining lines, are those of all lines
abbrev pub invariant-loop-place : goal.invariant-loop-place
invariant-loop-place l =
    results_with_rest l.text (section_lines l.lines (drop l.place-index l.places))
    ≡ (general_lines (section_lines l.lines l.places), general_remarks (section_lines l.lines l.places))
