use Rattle.std.proofs.Common.{◌≡◌, drop}
use Rattle.dp_files.specs.SectionParts.{reading_now}
use Rattle.dp_files.specs.Sections.{after_lines, sections_of}
use Rattle.dp_files.proofs.sections.read_sections.Given as goal

abbrev pub invariant-loop-place : goal.invariant-loop-place
invariant-loop-place l =
    after_lines l.files l.lines (reading_now l.reading) l.place (drop l.place l.lines) ≡ sections_of l.files l.lines
