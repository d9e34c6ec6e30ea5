-- The text of a configuration file and of the files that it includes: the lines of its sections unchanged, without those of templates.
use Rattle.std.specs.Prelude.{ℕ, List, [], ◌++◌, Result, Ok, if◌then◌else◌}
use Rattle.std.specs.List.{flat_map}
use Rattle.dp_conf.specs.Answers.{◌>>=◌}
use Rattle.dp_files.specs.DialplanText.{header_lines, standing}
use Rattle.dp_files.specs.Reading.{FilesOf, reading_of}
use Rattle.dp_files.specs.Sections.{SectionsSoFar, sections_of}
use Rattle.dp_files.specs.Sources.{Files}
use Rattle.dp_files.specs.declared.configuration.ConfigurationFiles.{ConfigurationFiles}
use Rattle.dp_files.specs.declared.reading.ReadingFault.{ReadingFault}
use Rattle.dp_files.specs.declared.remark.LineRemark.{LineRemark}
use Rattle.dp_files.specs.declared.sections.SourceSection.{SourceSection}
use Rattle.dp_files.specs.declared.source_line.MadeLine.{MadeLine}
use Rattle.dp_files.specs.declared.source_line.SourceFile.{SourceFile}
use Rattle.dp_files.specs.declared.source_line.SourceLine.{SourceLine}

-- the files that were opened, their lines, the lines made from these, and the remarks
pub record ConfigurationOf : Type 0 where
  pub files : List SourceFile
  pub lines : List SourceLine
  pub made : List MadeLine
  pub remarks : List LineRemark

-- the header of a section and its lines, unless it is a template
abbrev pub section_text : List SourceLine → SourceSection → List MadeLine
section_text lines section = if section.is_template then [] else header_lines lines section.header ++ standing lines section.lines

-- the same for all sections, in order
abbrev pub sections_text : List SourceLine → List SourceSection → List MadeLine
sections_text lines sections = flat_map (section_text lines) sections

-- the text, given the sections of the lines: the remarks from reading files come before those on sections
abbrev pub configuration_by : FilesOf → SectionsSoFar → ConfigurationOf
configuration_by read found = record {
  files = read.files;
  lines = read.lines;
  made = sections_text read.lines found.sections;
  remarks = read.remarks ++ found.remarks;
}

-- the text of the files that were read
abbrev pub configuration_in : FilesOf → ConfigurationOf
configuration_in read = configuration_by read (sections_of read.files read.lines)

-- the text of the file with this name
abbrev pub configuration_of : Files → List ℕ → Result ConfigurationOf ReadingFault
configuration_of files name = reading_of files name >>= λ read. Ok (configuration_in read)

-- the result of a call
abbrev pub configuration_now : ConfigurationFiles → ConfigurationOf
configuration_now read = record {
  files = read.files.items;
  lines = read.lines.items;
  made = read.made.items;
  remarks = read.remarks.items;
}
