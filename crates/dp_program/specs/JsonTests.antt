-- The results of tests as JSON, with the coverage of their dialplans.
use Rattle.std.specs.Prelude.{ℕ, ◌+◌, ◌-◌, Bool, List, [], ◌∷◌, ◌++◌, length, filter, Option, Some, None, is_some, Result, Ok, codes}
use Rattle.std.specs.List.{flat_map}
use Rattle.std.specs.Option.{option_map_or}
use Rattle.dp_conf.specs.Answers.{◌>>=◌}
use Rattle.dp_commands.specs.LinePlaces.{PlacesOfLines, file_name, in_file, in_files, places_of, position_of}
use Rattle.dp_commands.specs.Run.{plan_fault}
use Rattle.dp_commands.specs.Verbose.{lines_in}
use Rattle.dp_commands.specs.declared.fault.PbxFault.{PbxFault}
use Rattle.dp_commands.specs.declared.line_places.LinePosition.{LinePosition}
use Rattle.dp_json.specs.Objects.{Field, number_field, object_text, text_field, type_field}
use Rattle.dp_json.specs.Tests.{covered_object, never_object, tests_object, trace_text}
use Rattle.dp_plan.specs.Loaded.{plan_and_notes}
use Rattle.dp_plan.specs.Lookup.{line_at}
use Rattle.dp_plan.specs.Plan.{PlanOf}
use Rattle.dp_plan.specs.declared.entry.EntryId.{EntryId}
use Rattle.dp_program.specs.declared.test_results.PlanRun.{PlanRun}
use Rattle.dp_test_runs.specs.Coverage.{has_run, ids_of, never_run}
use Rattle.dp_test_runs.specs.declared.tap.Point.{Point}
use Rattle.dp_test_runs.specs.declared.tap.FailureReport.{FailureReport}

-- ---- tests

-- the object of a test with a number and a name that passed
abbrev pub passed_object : ℕ → List ℕ → List Field
passed_object number name =
    type_field (codes "test") ∷ number_field (codes "number") number ∷ text_field (codes "kind") (codes "Passed")
    ∷ text_field (codes "name") name ∷ []

-- the object of one that failed: its place, what was expected, what came of it, and the last entries that ran, with line feeds between them
abbrev pub failed_object : ℕ → List ℕ → FailureReport → List Field
failed_object number name report =
    type_field (codes "test") ∷ number_field (codes "number") number ∷ text_field (codes "kind") (codes "Failed")
    ∷ text_field (codes "name") name ∷ text_field (codes "at") report.at ∷ text_field (codes "expected") report.expected
    ∷ text_field (codes "got") report.got ∷ text_field (codes "trace") (trace_text report.trace) ∷ []

-- the object of a test, given its report if it failed
abbrev pub object_by : ℕ → List ℕ → Option FailureReport → List Field
object_by number name None = passed_object number name
object_by number name (Some report) = failed_object number name report

abbrev pub point_object : ℕ → Point → List Field
point_object number point = object_by number point.name point.report

-- the lines of tests, of which the first has this number
abbrev pub points_text : ℕ → List Point → List ℕ
points_text number [] = []
points_text number (point ∷ points) = object_text (point_object number point) ++ points_text (number + 1) points

-- whether a test failed
abbrev pub is_failed : Point → Bool
is_failed point = is_some point.report

-- the lines of tests, and then that of their number and of how many failed
abbrev pub tests_json : List Point → List ℕ
tests_json points = points_text 1 points ++ object_text (tests_object (length points) (length (filter is_failed points)))

-- ---- the coverage

-- a line of a file; a line that comes from none is of no file
pub record FileLineOf : Type 0 where
  pub file : List ℕ
  pub line : Option ℕ

abbrev pub file_line : List ℕ → Option ℕ → FileLineOf
file_line file line = record { file = file; line = line }

-- the line of a file at a position
abbrev pub line_of_position : List (List ℕ) → LinePosition → FileLineOf
line_of_position files position = file_line (file_name files position.file) (Some position.line)

-- the line of a file from which a line of a dialplan's text comes
abbrev pub source_line : PlacesOfLines → Option ℕ → FileLineOf
source_line (in_file name) line = file_line name line
source_line (in_files files lines) line = option_map_or (line_of_position files) (position_of lines line) (file_line [] None)

-- the line of an entry that no test ran, given the line of a file that it comes from
abbrev pub never_from : FileLineOf → PlanOf → EntryId → List ℕ
never_from from plan id = object_text (never_object from.file from.line plan id)

abbrev pub never_line : PlacesOfLines → List (List ℕ) → PlanOf → EntryId → List ℕ
never_line places lines plan id = never_from (source_line places (line_at lines id)) plan id

-- the coverage of the dialplan at a path by the entries that tests ran: how many there are, then each that is not among them
unfoldable pub coverage_of : List ℕ → PlacesOfLines → List (List ℕ) → PlanOf → List EntryId → List ℕ
coverage_of path places lines plan ran =
    object_text (covered_object path (length (filter (has_run ran) (ids_of plan))) (length (ids_of plan)))
    ++ flat_map (never_line places lines plan) (never_run plan ran)

-- the same for the dialplan of a test file, or the first fault of its text
unfoldable pub coverage_json : PlanRun → List EntryId → Result (List ℕ) PbxFault
coverage_json plan ran =
    plan_fault (plan_and_notes plan.tested.texts.plan.now) >>= λ read.
    Ok (coverage_of plan.path (places_of plan.tested.places) (lines_in plan.tested.texts.plan.now) read.0 ran)
