-- What `pbx test` does with test files: it reads them all, runs their tests in order, and writes the results as one list.
use Rattle.std.specs.Prelude.{◌≡◌, ◌&&◌, ℕ, Bool, true, false, ◌==◌, List, [], ◌∷◌, ◌++◌, length, map, Option, None, Result, Ok, Err, codes, if◌then◌else◌}
use Rattle.std.specs.Io.KnownBytes.{Appends}
use Rattle.std.specs.List.{flat_map, list_any}
use Rattle.std.specs.Option.{option_map}
use Rattle.indexmap.specs.IndexSet.{insert_all}
use Rattle.dp_audit.specs.Candidates.{same_id}
use Rattle.dp_conf.specs.Answers.{◌>>=◌}
use Rattle.dp_conf.specs.Fronts.{AppendsFront}
use Rattle.dp_conf.specs.Words.{same_text}
use Rattle.dp_commands.specs.Run.{files_of}
use Rattle.dp_commands.specs.declared.fault.Code.{Code}
use Rattle.dp_commands.specs.declared.fault.Code.TheVariants.{WriteFailed}
use Rattle.dp_commands.specs.declared.fault.PbxFault.{PbxFault}
use Rattle.dp_commands.specs.declared.fault.PbxFault.TheVariants.{Coded, NoMemory}
use Rattle.dp_files.specs.FolderFiles.{path_of}
use Rattle.dp_graph.specs.Picture.{picture_of}
use Rattle.dp_graph.specs.Printing.{text_of}
use Rattle.dp_graph.specs.Shading.{ByTests}
use Rattle.dp_plan.specs.declared.entry.EntryId.{EntryId}
use Rattle.dp_program.specs.Dialplans.{FailsToRead}
use Rattle.dp_program.specs.Faulted.{in_none, nowhere, place_of}
use Rattle.dp_program.specs.Files.{Reads, ByteSource}
use Rattle.dp_program.specs.Graphs.{exits_of}
use Rattle.dp_program.specs.TestFiles.{AreInputs, InputsOf, InputsRead, IsTested, fault_lines, fault_of_texts, inputs_of, lacking, ready}
use Rattle.dp_program.specs.TestTexts.{TestText, text_at}
use Rattle.dp_program.specs.declared.fault_places.Faulted.{Faulted}
use Rattle.dp_program.specs.declared.hints.ServedRequest.{ServedRequest}
use Rattle.dp_program.specs.declared.test_reports.TestManner.{TestManner}
use Rattle.dp_program.specs.declared.test_reports.TestReport.{TestReport}
use Rattle.dp_program.specs.declared.test_results.PlanRun.{PlanRun}
use Rattle.dp_program.specs.JsonTests.{coverage_json, tests_json}
use Rattle.dp_program.specs.declared.test_results.Results.{Results}
use Rattle.dp_program.specs.declared.test_suites.ReadyTests.{ReadyTests}
use Rattle.dp_program.specs.declared.test_suites.Suite.{Suite}
use Rattle.dp_test_runs.specs.Coverage.{coverage_in}
use Rattle.dp_test_runs.specs.Points.{entered_in, has_failed, points_of}
use Rattle.dp_test_runs.specs.Tap.{tap_text}
use Rattle.dp_test_runs.specs.declared.points.TestedFile.{TestedFile}
use Rattle.dp_test_runs.specs.declared.tap.Point.{Point}
use Rattle.dp_tests.specs.Files.{file_of}
use Rattle.dp_tests.specs.declared.fault.TestFault.{TestFault}
use Rattle.dp_tests.specs.declared.file.TestFile.{TestFile}

-- ---- the test files

-- a test file whose tests can run: what it says, and the texts that they run on
pub record ReadyOf : Type 0 where
  pub source : TestText
  pub file : TestFile
  pub inputs : InputsOf

abbrev pub ready_by : TestText → TestFile → InputsOf → ReadyOf
ready_by source file inputs = record { source = source; file = file; inputs = inputs }

-- test files that were read: those whose tests can run, and the lines about everything that is wrong with the others
pub record SuiteOf : Type 0 where
  pub ready : List ReadyOf
  pub lines : List ℕ

abbrev pub no_files : SuiteOf
no_files = record { ready = []; lines = [] }

-- the same with one more file, whose tests can run
abbrev pub with_ready : ReadyOf → SuiteOf → SuiteOf
with_ready tests suite = record { ready = suite.ready ++ tests ∷ []; lines = suite.lines }

-- the same with the lines about one more file
abbrev pub with_lines : List ℕ → SuiteOf → SuiteOf
with_lines lines suite = record { ready = suite.ready; lines = suite.lines ++ lines }

-- the same with one more file, given the texts that its tests run on or the lines about what is wrong with them
abbrev pub with_inputs : TestText → TestFile → SuiteOf → InputsRead → SuiteOf
with_inputs source file suite (ready inputs) = with_ready (ready_by source file inputs) suite
with_inputs source file suite (lacking lines) = with_lines lines suite

-- one more file may be added so: the files that it names are read
pub record AddsFile (files : List ℕ → ByteSource) (source : TestText) (file : TestFile) (before after : SuiteOf) : Type 0 where
  pub read : InputsRead
  pub inputs : AreInputs files source.path file read
  pub added : after ≡ with_inputs source file before read

-- the same, given what its text says or the faults of the text
abbrev pub AddsRead : (List ℕ → ByteSource) → TestText → SuiteOf → SuiteOf → Result TestFile (List TestFault) → Type 0
AddsRead files source before after (Ok file) = AddsFile files source file before after
AddsRead files source before after (Err faults) = after ≡ with_lines (fault_lines source.path faults) before

abbrev pub AddsText : (List ℕ → ByteSource) → TestText → SuiteOf → SuiteOf → Type 0
AddsText files source before after = AddsRead files source before after (file_of source.text)

-- test files may be read so, one after another
abbrev pub AreRead : (List ℕ → ByteSource) → List TestText → SuiteOf → SuiteOf → Type 0
AreRead files [] before after = after ≡ before
AreRead files (source ∷ more) before after = (next : SuiteOf) × AddsText files source before next × AreRead files more next after

-- the result of a call
abbrev pub ready_now : ReadyTests → ReadyOf
ready_now tests = ready_by (text_at tests.path.now tests.text.now) tests.file (inputs_of tests.inputs)

abbrev pub suite_now : Suite → SuiteOf
suite_now suite = record { ready = map ready_now suite.ready.items; lines = suite.lines.items }

-- ---- the tests

-- what tests came to: their points, the entries of its dialplan that the tests of each file ran, and the lines about texts that tests
-- cannot run on
pub record ResultsOf : Type 0 where
  pub points : List Point
  pub plans : List PlanRun
  pub lines : List ℕ

abbrev pub no_results : ResultsOf
no_results = record { points = []; plans = []; lines = [] }

-- the entries of its dialplan that the tests of a file ran, with the path of the dialplan
abbrev pub plan_run : TestedFile → List Point → PlanRun
plan_run tested points =
    record { tested = tested; path = path_of tested.path.now tested.file.now.dialplan.text; entered = entered_in points }

-- the results with the points of one more file
abbrev pub with_points : TestedFile → List Point → ResultsOf → ResultsOf
with_points tested points results =
    record { points = results.points ++ points; plans = results.plans ++ plan_run tested points ∷ []; lines = results.lines }

-- the results with the line about the texts of one more file
abbrev pub with_fault : TestedFile → PbxFault → ResultsOf → ResultsOf
with_fault tested fault results =
    record {
      points = results.points;
      plans = results.plans;
      lines = results.lines ++ fault_of_texts tested.path.now tested.file.now fault;
    }

-- the results with what the tests of one more file came to
abbrev pub with_outcome : TestedFile → ResultsOf → Result (List Point) PbxFault → ResultsOf
with_outcome tested results (Ok points) = with_points tested points results
with_outcome tested results (Err fault) = with_fault tested fault results

-- a test file with these texts
abbrev pub IsReady : TestedFile → ReadyOf → Type 0
IsReady tested tests = IsTested tested tests.source.path tests.source.text tests.file tests.inputs

-- the results with what the tests of one more file came to when they ran
pub record AddsResults (tests : ReadyOf) (before after : ResultsOf) : Type 0 where
  pub tested : TestedFile
  pub is_ready : IsReady tested tests
  pub added : after ≡ with_outcome tested before (points_of tested)

-- the tests of files may run so, one file after another
abbrev pub Run : List ReadyOf → ResultsOf → ResultsOf → Type 0
Run [] before after = after ≡ before
Run (tests ∷ more) before after = (next : ResultsOf) × AddsResults tests before next × Run more next after

-- the result of a call
abbrev pub results_now : Results → ResultsOf
results_now results = record { points = results.points; plans = results.plans.items; lines = results.lines.items }

-- ---- the coverage

-- whether two test files are on the same dialplan: on the same text of a file at the same path
abbrev pub same_plan : PlanRun → PlanRun → Bool
same_plan a b = same_text a.path b.path && same_text a.tested.texts.plan.now b.tested.texts.plan.now

-- the entries of a dialplan that the tests of one file ran, if it is on this dialplan
abbrev pub entered_by : PlanRun → PlanRun → List EntryId
entered_by plan run = if same_plan plan run then run.entered else []

-- the coverage of a dialplan; it has no fault, since tests ran on it
abbrev pub coverage_shown : Result (List ℕ) PbxFault → List ℕ
coverage_shown (Ok text) = text
coverage_shown (Err fault) = []

-- the coverage of a dialplan by these entries, as text or as JSON
abbrev pub coverage_by : Bool → PlanRun → List EntryId → List ℕ
coverage_by false plan entered = coverage_shown (coverage_in (record { text = plan.tested.texts.plan; places = plan.tested.places }) entered)
coverage_by true plan entered = coverage_shown (coverage_json plan entered)

-- the coverage of a dialplan by the tests of all files that are on it
abbrev pub plan_coverage : Bool → List PlanRun → PlanRun → List ℕ
plan_coverage is_json runs plan = coverage_by is_json plan (flat_map (entered_by plan) runs)

-- the same for the dialplan of a test file, unless one of the files before it is on it
abbrev pub untold_coverage : Bool → List PlanRun → List PlanRun → PlanRun → List ℕ
untold_coverage is_json runs before run = if list_any (same_plan run) before then [] else plan_coverage is_json runs run

-- the coverage of the dialplans of test files, given those before them
abbrev pub coverage_after : Bool → List PlanRun → List PlanRun → List PlanRun → List ℕ
coverage_after is_json runs before [] = []
coverage_after is_json runs before (run ∷ more) =
    untold_coverage is_json runs before run ++ coverage_after is_json runs (before ++ run ∷ []) more

-- the coverage of all dialplans, each once, if it is asked for
abbrev pub coverage_asked : Bool → Bool → List PlanRun → List ℕ
coverage_asked is_json false runs = []
coverage_asked is_json true runs = coverage_after is_json runs [] runs

-- ---- the picture

-- the picture of the dialplan of a test file by these entries, which tests ran, with the ways out of its queues; or the first fault of its
-- texts
unfoldable pub picture_in : PlanRun → List EntryId → Result (List ℕ) PbxFault
picture_in plan ran =
    files_of plan.tested.texts.plan.now (option_map (λ text. text.now) plan.tested.texts.queues) >>= λ files.
    Ok (text_of (picture_of files.plan (ByTests (insert_all same_id [] ran)) (exits_of files.queues.queues)))

-- the same by the tests of all files that are on the dialplan; it has no fault, since tests ran on it
abbrev pub picture_by : List PlanRun → PlanRun → List ℕ
picture_by runs plan = coverage_shown (picture_in plan (flat_map (entered_by plan) runs))

-- the line about the test file at a path that is on another dialplan than the one that is drawn
unfoldable pub other_reason : List ℕ
other_reason = codes " is on another dialplan than the first test file\n"

abbrev pub other_text : List ℕ → List ℕ
other_text path = codes "pbx: " ++ path ++ other_reason

abbrev pub other_line : PlanRun → PlanRun → List ℕ
other_line drawn run = if same_plan drawn run then [] else other_text run.tested.path.now

-- ---- the report

-- what is written, what is told beside it, and the status
pub record TestReportOf : Type 0 where
  pub written : List ℕ
  pub told : List ℕ
  pub status : ℕ

-- the result of a call
abbrev pub report_now : TestReport → TestReportOf
report_now report = record { written = report.written; told = report.told.items; status = report.status }

-- what is asked for besides the results: the trace of each test, the coverage of the dialplans, JSON in place of text, and a picture in
-- place of all results
pub record MannerOf : Type 0 where
  pub traces : Bool
  pub covers : Bool
  pub is_json : Bool
  pub draws : Bool

abbrev pub manner_now : TestManner → MannerOf
manner_now manner = record { traces = manner.traces; covers = manner.covers; is_json = manner.is_json; draws = manner.draws }

abbrev pub manner_of : Bool → Bool → Bool → Bool → MannerOf
manner_of traces covers draws is_json = record { traces = traces; covers = covers; is_json = is_json; draws = draws }

-- no results, because of what these lines say
abbrev pub refuses : List ℕ → TestReportOf
refuses lines = record { written = []; told = lines; status = 1 }

-- the results of tests; JSON has no traces
abbrev pub results_text : MannerOf → List Point → List ℕ
results_text manner points = if manner.is_json then tests_json points else tap_text manner.traces points

-- the points of tests, with what is added to them; the status is 1 if a test failed
abbrev pub passes : MannerOf → List Point → List ℕ → TestReportOf
passes manner points added = record { written = results_text manner points ++ added; told = []; status = if has_failed points then 1 else 0 }

-- a picture, with the lines beside it
abbrev pub picture_report : List ℕ → List ℕ → TestReportOf
picture_report picture told = record { written = picture; told = told; status = if length told == 0 then 0 else 1 }

-- the picture of the dialplan of the first test file
abbrev pub drawn_by : List PlanRun → List PlanRun → TestReportOf
drawn_by runs [] = record { written = []; told = []; status = 0 }
drawn_by runs (plan ∷ more) = picture_report (picture_by runs plan) (flat_map (other_line plan) runs)

-- the report on tests
abbrev pub report_of : MannerOf → List Point → List PlanRun → TestReportOf
report_of manner points plans =
    if manner.draws then drawn_by plans plans else passes manner points (coverage_asked manner.is_json manner.covers plans)

-- the report on results, given the lines about texts that tests cannot run on
abbrev pub report_by : MannerOf → ResultsOf → List ℕ → TestReportOf
report_by manner results [] = report_of manner results.points results.plans
report_by manner results lines = refuses lines

-- the report on files whose tests can run
pub record ReportsReady (manner : MannerOf) (tests : List ReadyOf) (report : TestReportOf) : Type 0 where
  pub results : ResultsOf
  pub ran : Run tests no_results results
  pub reported : report ≡ report_by manner results results.lines

-- the report on test files, given the lines about everything that is wrong: with any, no test runs
abbrev pub ReportsSuite : MannerOf → List ReadyOf → TestReportOf → List ℕ → Type 0
ReportsSuite manner tests report [] = ReportsReady manner tests report
ReportsSuite manner tests report lines = report ≡ refuses lines

-- a possible report on test files
pub record MayReport (manner : MannerOf) (files : List ℕ → ByteSource) (texts : List TestText) (report : TestReportOf) : Type 0 where
  pub suite : SuiteOf
  pub read : AreRead files texts no_files suite
  pub reported : ReportsSuite manner suite.ready report suite.lines

-- ---- the output and the result

-- a report that was made is written, or a write fails; or memory ran out before
abbrev pub WritesMade : {E : Type 0} → Result TestReport E → Option (List ℕ) → Option (List ℕ) → Result ServedRequest Faulted → Type 0
WritesMade (Ok report) old new (Ok served) =
    Appends old new report.written × (served.status ≡ report.status) × (served.hint.items ≡ report.told.items)
WritesMade (Ok report) old new (Err faulted) = AppendsFront old new report.written × (faulted ≡ nowhere (Coded WriteFailed None))
WritesMade (Err refused) old new (Ok served) = ⊥
WritesMade (Err refused) old new (Err faulted) = Appends old new [] × (faulted ≡ nowhere NoMemory)

-- a report is written, or a write fails
abbrev pub WritesBytes : TestReportOf → Option (List ℕ) → Option (List ℕ) → Result ServedRequest PbxFault → Type 0
WritesBytes report old new (Ok served) = Appends old new report.written × (served.status ≡ report.status) × (served.hint.items ≡ report.told)
WritesBytes report old new (Err fault) = AppendsFront old new report.written × (fault ≡ Coded WriteFailed None)

-- the report is written, or memory runs out before, or a write fails
pub record Gives (MayBe : TestReportOf → Type 0) (old new : Option (List ℕ)) (served : ServedRequest) : Type 0 where
  pub report : TestReportOf
  pub may_be : MayBe report
  pub written : Appends old new report.written
  pub status : served.status ≡ report.status
  pub told : served.hint.items ≡ report.told

pub record Loses (MayBe : TestReportOf → Type 0) (old new : Option (List ℕ)) (code : Code) (line : Option ℕ) : Type 0 where
  pub report : TestReportOf
  pub may_be : MayBe report
  pub written : AppendsFront old new report.written
  pub code_is : code ≡ WriteFailed
  pub line_is : line ≡ None

abbrev pub LosesBy : (TestReportOf → Type 0) → Option (List ℕ) → Option (List ℕ) → PbxFault → Type 0
LosesBy MayBe old new (Coded code line) = Loses MayBe old new code line
LosesBy MayBe old new NoMemory = Appends old new []

abbrev pub WritesReport : (TestReportOf → Type 0) → Option (List ℕ) → Option (List ℕ) → Result ServedRequest Faulted → Type 0
WritesReport MayBe old new (Ok served) = Gives MayBe old new served
WritesReport MayBe old new (Err faulted) = LosesBy MayBe old new faulted.fault × (place_of faulted.place ≡ in_none)

-- the output and result once the test file at a path was read, given what follows from its text; else nothing is done
abbrev pub AfterRead : (List ℕ → Type 0) → List ℕ → Option (List ℕ) → Option (List ℕ) → Result ServedRequest Faulted → Result (List ℕ) PbxFault → Type 0
AfterRead Follows path old new answered (Ok text) = Follows text
AfterRead Follows path old new answered (Err fault) = FailsToRead path fault old new answered

-- the output and result of the tests of the files at these paths, given the texts of the files before them
abbrev pub TestsAfter : MannerOf → (List ℕ → ByteSource) → List TestText → List (List ℕ) → Option (List ℕ) → Option (List ℕ) → Result ServedRequest Faulted → Type 0
TestsAfter manner files texts [] old new answered = WritesReport (MayReport manner files texts) old new answered
TestsAfter manner files texts (path ∷ more) old new answered =
    Reads (files path)
    (AfterRead (λ text. TestsAfter manner files (texts ++ text_at path text ∷ []) more old new answered) path old new answered)

-- the output and result of the tests of the files at these paths
abbrev pub TestsFiles : MannerOf → (List ℕ → ByteSource) → List (List ℕ) → Option (List ℕ) → Option (List ℕ) → Result ServedRequest Faulted → Type 0
TestsFiles manner files paths old new answered = TestsAfter manner files [] paths old new answered
