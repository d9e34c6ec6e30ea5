-- A dialplan that is read from files, with the notices on their lines.
use Rattle.std.specs.Prelude.{ℕ, List, ◌++◌, map, Option, Result, Ok}
use Rattle.dp_conf.specs.Answers.{◌>>=◌}
use Rattle.dp_files.specs.Dialplan.{DialplanOf, dialplan_of}
use Rattle.dp_files.specs.Sources.{Files}
use Rattle.dp_files.specs.declared.reading.ReadingFault.{ReadingFault}
use Rattle.dp_files.specs.declared.remark.LineRemark.{LineRemark}
use Rattle.dp_files.specs.declared.source_line.MadeLine.{MadeLine}
use Rattle.dp_files.specs.declared.source_line.SourceFile.{SourceFile}
use Rattle.dp_notices.specs.LineNotices.{noted_lines}
use Rattle.dp_notices.specs.Loading.{LoadedOf}
use Rattle.dp_notices.specs.Notices.{of_reading}
use Rattle.dp_notices.specs.Preparation.{prepared_plan}
use Rattle.dp_notices.specs.declared.line_notices.NotedLine.{NotedLine}
use Rattle.dp_notices.specs.declared.line_notices.NoticeAt.{NoticeAt}
use Rattle.dp_notices.specs.declared.loading.PlanCounts.{PlanCounts}
use Rattle.dp_notices.specs.declared.plan_files.PlanFiles.{PlanFiles}
use Rattle.dp_wide.specs.declared.times.Moment.{Moment}

-- the files, their lines with the notices on each, the lines that load, and the counts of the dialplan that they load as
pub record PlanFilesOf : Type 0 where
  pub files : List SourceFile
  pub lines : List NotedLine
  pub made : List MadeLine
  pub counts : PlanCounts

-- the notice of a remark of the file reader
abbrev pub reading_notice : LineRemark → NoticeAt
reading_notice remark = record { source = remark.source; notice = of_reading remark.kind }

-- the dialplan of files that were read, given what their lines load as
abbrev pub plan_with : DialplanOf → LoadedOf → PlanFilesOf
plan_with read loaded = record {
  files = read.files;
  lines = noted_lines read.lines (map reading_notice read.remarks ++ loaded.notices);
  made = loaded.lines;
  counts = loaded.counts;
}

-- the dialplan of files that were read, at a moment if one is given
abbrev pub plan_by : Option Moment → DialplanOf → PlanFilesOf
plan_by clock read = plan_with read (prepared_plan clock read.made)

-- the dialplan of the file with this name
abbrev pub plan_of : Option Moment → Files → List ℕ → Result PlanFilesOf ReadingFault
plan_of clock files name = dialplan_of files name >>= λ read. Ok (plan_by clock read)

-- the result of a call
abbrev pub plan_now : PlanFiles → PlanFilesOf
plan_now plan = record {
  files = plan.files.items;
  lines = plan.lines.items;
  made = plan.made.items;
  counts = plan.counts;
}
