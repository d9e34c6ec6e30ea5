-- Parts of the reading so far in private functions. No public clause depends on them.
use Rattle.std.specs.Prelude.{ℕ, List}
use Rattle.dp_files.specs.Sections.{SectionsSoFar}
use Rattle.dp_files.specs.declared.remark.Fault.{Fault}
use Rattle.dp_files.specs.declared.remark.LineRemark.{LineRemark}
use Rattle.dp_files.specs.declared.remark.RemarkKind.TheVariants.{Fault as fault_kind}
use Rattle.dp_files.specs.declared.sections.NamedSections.{NamedSections}
use Rattle.dp_files.specs.declared.sections.Opening.{Opening}
use Rattle.dp_files.specs.declared.sections.SectionReading.{SectionReading}

-- the reading so far, as in the definition
abbrev pub reading_now : SectionReading → SectionsSoFar
reading_now reading =
    record {
      sections = reading.sections.items;
      remarks = reading.remarks.items;
      open_in = reading.open_in.items;
      room = reading.room;
    }

-- the section that a header opens, and the sections whose lines it copies
abbrev pub named_now : NamedSections → Opening × List ℕ
named_now named = (named.opening, named.parents.items)

-- the remark on a faulty line
abbrev pub fault_at : ℕ → Fault → LineRemark
fault_at place fault = record { source = place; kind = fault_kind fault }
