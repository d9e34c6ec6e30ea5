use Rattle.std.proofs.Common.{◌≡◌, ◌++◌, drop}
use Rattle.dp_files.specs.Configuration as spec
use Rattle.dp_files.proofs.configuration.sections_text.Given as goal

-- the lines so far with those of the remaining sections are those of all sections
abbrev pub invariant-loop-section : goal.invariant-loop-section
invariant-loop-section l = l.made.items ++ spec.sections_text l.lines (drop l.section-index l.sections) ≡ spec.sections_text l.lines l.sections
