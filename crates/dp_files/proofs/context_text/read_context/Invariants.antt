use Rattle.std.proofs.Common.{◌≡◌, drop}
use Rattle.dp_files.specs.ContextLines.{context_lines, context_remarks, section_lines}
use Rattle.dp_files.specs.ToldSteps.{results_of_reader}
use Rattle.dp_files.proofs.context_text.read_context.Given as goal

-- the results so far, with those of the remaining lines, are those of all lines
abbrev pub invariant-loop-place : goal.invariant-loop-place
invariant-loop-place l =
    results_of_reader l.reader (section_lines l.lines (drop l.place-index l.places))
    ≡ (context_lines (section_lines l.lines l.places), context_remarks (section_lines l.lines l.places))
