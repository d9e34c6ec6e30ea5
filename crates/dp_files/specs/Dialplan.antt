-- The text of a dialplan, made from a file and the files that it includes.
use Rattle.std.specs.Prelude.{ℕ, List, ◌++◌, Result, Ok}
use Rattle.dp_conf.specs.Answers.{◌>>=◌}
use Rattle.dp_files.specs.DialplanText.{dialplan_lines, dialplan_remarks}
use Rattle.dp_files.specs.Reading.{FilesOf, reading_of}
use Rattle.dp_files.specs.Sections.{SectionsSoFar, sections_of}
use Rattle.dp_files.specs.Sources.{Files}
use Rattle.dp_files.specs.declared.dialplan.DialplanFiles.{DialplanFiles}
use Rattle.dp_files.specs.declared.reading.ReadingFault.{ReadingFault}
use Rattle.dp_files.specs.declared.remark.LineRemark.{LineRemark}
use Rattle.dp_files.specs.declared.source_line.MadeLine.{MadeLine}
use Rattle.dp_files.specs.declared.source_line.SourceFile.{SourceFile}
use Rattle.dp_files.specs.declared.source_line.SourceLine.{SourceLine}

-- the files that were opened, their lines, the lines made from these, and the remarks
pub record DialplanOf : Type 0 where
  pub files : List SourceFile
  pub lines : List SourceLine
  pub made : List MadeLine
  pub remarks : List LineRemark

-- the dialplan, given the sections of the lines: the remarks from reading files come first, then those on sections, then those on their
-- lines
abbrev pub dialplan_by : FilesOf → SectionsSoFar → DialplanOf
dialplan_by read found = record {
  files = read.files;
  lines = read.lines;
  made = dialplan_lines read.lines found.sections;
  remarks = read.remarks ++ (found.remarks ++ dialplan_remarks read.lines found.sections);
}

-- the dialplan of the files that were read
abbrev pub dialplan_in : FilesOf → DialplanOf
dialplan_in read = dialplan_by read (sections_of read.files read.lines)

-- the dialplan of the file with this name
abbrev pub dialplan_of : Files → List ℕ → Result DialplanOf ReadingFault
dialplan_of files name = reading_of files name >>= λ read. Ok (dialplan_in read)

-- the result of a call
abbrev pub dialplan_now : DialplanFiles → DialplanOf
dialplan_now read = record {
  files = read.files.items;
  lines = read.lines.items;
  made = read.made.lines.items;
  remarks = read.made.remarks.items;
}
