-- What the tests of a file came to, as it is reported.
use Rattle.std.specs.Prelude.{ℕ, Bool, List, ◌++◌, map, is_some, Result, Ok, codes, decimal}
use Rattle.std.specs.List.{flat_map, list_any}
use Rattle.std.specs.Option.{option_map}
use Rattle.dp_conf.specs.Answers.{◌>>=◌}
use Rattle.dp_conf.specs.Blanks.{trim}
use Rattle.dp_conf.specs.Lines.{parts_of}
use Rattle.dp_plan.specs.declared.entry.EntryId.{EntryId}
use Rattle.dp_machine.specs.World.{World}
use Rattle.dp_commands.specs.Explained.{line_among}
use Rattle.dp_commands.specs.LinePlaces.{places_of}
use Rattle.dp_commands.specs.declared.fault.PbxFault.{PbxFault}
use Rattle.dp_wide_runs.specs.Lines.{cut_word}
use Rattle.dp_tests.specs.declared.file.Test.{Test}
use Rattle.dp_test_runs.specs.Results.{opening_of, result_on}
use Rattle.dp_test_runs.specs.Traces.{SourcesOf, entered_entries, last_five, sources_of, trace_of}
use Rattle.dp_test_runs.specs.declared.failure.Failure.{Failure}
use Rattle.dp_test_runs.specs.declared.failure.FailureKind.{FailureKind}
use Rattle.dp_test_runs.specs.declared.failure.FailureKind.TheVariants as kinds
use Rattle.dp_test_runs.specs.declared.points.TestedFile.{TestedFile}
use Rattle.dp_test_runs.specs.declared.tap.Point.{Point}
use Rattle.dp_test_runs.specs.declared.tap.FailureReport.{FailureReport}
use Rattle.dp_test_runs.specs.declared.test_run.TestResult.{TestResult}

-- a line of a file, `PATH:LINE`
abbrev pub line_shown : List ℕ → ℕ → List ℕ
line_shown path line = path ++ codes ":" ++ decimal line

-- what the line with a number expects: the text after its first word
abbrev pub expectation_at : List ℕ → ℕ → List ℕ
expectation_at text line = (cut_word (trim (line_among (parts_of text) line))).1

-- that something is expected of a channel
abbrev pub of_channel : ℕ → List ℕ
of_channel channel = codes "an expectation of channel " ++ decimal channel

-- what was expected where a line of the file failed for this reason
abbrev pub expected_by : List ℕ → ℕ → FailureKind → List ℕ
expected_by text line kinds.Unmet = expectation_at text line
expected_by text line (kinds.Refused refusal) = codes "done"
expected_by text line kinds.Endless = codes "at most 10000 steps"
expected_by text line (kinds.LeftUnknown channel) = of_channel channel

-- where the entries of the dialplans of a file's tests stand
abbrev pub sources_for : TestedFile → SourcesOf
sources_for tested = sources_of (places_of tested.places) tested.texts.plan.now tested.texts.reloaded.now

-- the trace of a test that ended so
abbrev pub trace_for : TestedFile → TestResult → List (List ℕ)
trace_for tested ended = trace_of (sources_for tested) ended.changes ended.ran

-- the report of a test that failed, given its trace
abbrev pub report_of : TestedFile → List (List ℕ) → List ℕ → Failure → FailureReport
report_of tested trace got failure =
    record {
      at = line_shown tested.path.now failure.line;
      expected = expected_by tested.text.now failure.line failure.kind;
      got = got;
      trace = last_five trace;
    }

-- a test with its report, if it failed, its trace, and the entries of the dialplan that it ran
abbrev pub point_by : TestedFile → List ℕ → TestResult → Point
point_by tested name ended =
    record {
      name = name;
      report = option_map (report_of tested (trace_for tested ended) ended.got) ended.failure;
      trace = trace_for tested ended;
      entered = entered_entries ended.changes ended.ran;
    }

-- the point of a test that begins in a world
abbrev pub point_in : TestedFile → World → Test → Point
point_in tested w test = point_by tested test.name (result_on tested.texts.reloaded.now tested.file.now test w)

-- the world in which each test of a file begins, or the first fault of its dialplan or of its queues
unfoldable pub opening : TestedFile → Result World PbxFault
opening tested = opening_of tested.texts.plan.now (option_map (λ text. text.now) tested.texts.queues)

-- the points of the tests of a file that begin in a world
abbrev pub points_in : TestedFile → World → List Point
points_in tested w = map (point_in tested w) tested.file.now.tests

-- the points of the tests of a file, in order, or the first fault of its dialplan or of its queues
unfoldable pub points_of : TestedFile → Result (List Point) PbxFault
points_of tested = opening tested >>= λ w. Ok (points_in tested w)

-- the entries of the dialplan that tests ran
abbrev pub entered_in : List Point → List EntryId
entered_in points = flat_map (λ point. point.entered) points

-- whether a test failed
abbrev pub has_failed : List Point → Bool
has_failed points = list_any (λ point. is_some point.report) points
