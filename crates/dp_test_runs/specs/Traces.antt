-- The traces of tests: what ran, with the lines of the files where it stands.
use Rattle.std.specs.Prelude.{ℕ, ◌+◌, ◌-◌, List, [], ◌∷◌, ◌++◌, drop, length, map, fold, Option, Some, None, Result, Ok, Err, slice_get, codes, nat_le, if◌then◌else◌}
use Rattle.std.specs.Option.{option_and_then, option_map_or}
use Rattle.dp_plan.specs.Loaded.{plan_and_notes}
use Rattle.dp_plan.specs.Lookup.{line_at}
use Rattle.dp_plan.specs.Plan.{PlanOf}
use Rattle.dp_plan.specs.declared.entry.EntryId.{EntryId}
use Rattle.dp_plan.specs.declared.fault.LoadFault.{LoadFault}
use Rattle.dp_plan.specs.declared.note.Note.{Note}
use Rattle.dp_commands.specs.LinePlaces.{PlacesOfLines, in_file_text, line_place}
use Rattle.dp_commands.specs.Verbose.{lines_in}
use Rattle.dp_test_runs.specs.Shown.{call_shown, place_shown}
use Rattle.dp_test_runs.specs.declared.course.PlanChange.{PlanChange}
use Rattle.dp_test_runs.specs.declared.named_text.NamedFileText.{NamedFileText}
use Rattle.dp_test_runs.specs.declared.ran_entries.RanEntry.{RanEntry}

-- ---- which dialplan

-- the dialplan in force when the entry with a place among those that ran ran, given the one before a change of it
abbrev pub plan_after : ℕ → Option ℕ → PlanChange → Option ℕ
plan_after place plan change = if nat_le change.after place then Some change.file else plan

-- the number of the file whose dialplan was in force when the entry with this place ran; None for the dialplan of the test file
abbrev pub plan_at : List PlanChange → ℕ → Option ℕ
plan_at changes place = fold (plan_after place) None changes

-- ---- which line

-- the lines of the entries of a dialplan, given whether it has loaded
abbrev pub lines_if_loaded : Result (PlanOf × List Note) LoadFault → List (List ℕ) → List (List ℕ)
lines_if_loaded (Ok read) lines = lines
lines_if_loaded (Err fault) lines = []

-- the lines of the entries of the dialplan that a text holds; none if the text is faulty
unfoldable pub plan_lines : List ℕ → List (List ℕ)
plan_lines text = lines_if_loaded (plan_and_notes text) (lines_in text)

-- where the entries of the dialplans of tests stand: where the lines of the test file's dialplan come from, the files that `reload` lines name,
-- and the lines of the entries of each
pub record SourcesOf : Type 0 where
  pub places : PlacesOfLines
  pub files : List NamedFileText
  pub plan : List (List ℕ)
  pub reloaded : List (List (List ℕ))

-- where the entries of these dialplans stand
abbrev pub sources_of : PlacesOfLines → List ℕ → List NamedFileText → SourcesOf
sources_of places plan files =
    record { places = places; files = files; plan = plan_lines plan; reloaded = map (λ file. plan_lines file.text) files }

-- a line of a file that a `reload` line names, `FILE:LINE`
abbrev pub line_of_file : NamedFileText → Option ℕ → List ℕ
line_of_file file line = in_file_text file.name line

-- where an entry of the dialplan of the file with a number stands
abbrev pub place_in_file : SourcesOf → ℕ → EntryId → List ℕ
place_in_file sources number id =
    option_map_or (λ file. line_of_file file (option_and_then (λ lines. line_at lines id) (slice_get sources.reloaded number)))
    (slice_get sources.files number) []

-- where an entry of the dialplan with this number stands, `FILE:LINE`
abbrev pub place_of_entry : SourcesOf → Option ℕ → EntryId → List ℕ
place_of_entry sources None id = line_place sources.places (line_at sources.plan id)
place_of_entry sources (Some number) id = place_in_file sources number id

-- ---- traces

-- an entry that ran, `CONTEXT,NAME,PRIORITY APP(ARGS)`
abbrev pub ran_shown : RanEntry → List ℕ
ran_shown ran = place_shown ran ++ codes " " ++ call_shown ran

-- an entry of the dialplan with this number that ran, `FILE:LINE CONTEXT,NAME,PRIORITY APP(ARGS)`
abbrev pub trace_line : SourcesOf → Option ℕ → RanEntry → List ℕ
trace_line sources plan ran = place_of_entry sources plan ran.id ++ codes " " ++ ran_shown ran

-- the line of an entry that ran; a call inside that of an entry has no line of its own
abbrev pub traced_by : SourcesOf → Option ℕ → RanEntry → List (List ℕ)
traced_by sources plan ran = if ran.is_side then [] else trace_line sources plan ran ∷ []

-- the lines of entries that ran, of which the first has this place
abbrev pub trace_from : SourcesOf → List PlanChange → ℕ → List RanEntry → List (List ℕ)
trace_from sources changes place [] = []
trace_from sources changes place (ran ∷ later) =
    traced_by sources (plan_at changes place) ran ++ trace_from sources changes (place + 1) later

-- the trace of a test
unfoldable pub trace_of : SourcesOf → List PlanChange → List RanEntry → List (List ℕ)
trace_of sources changes ran = trace_from sources changes 0 ran

-- the last five lines of a trace
abbrev pub last_five : List (List ℕ) → List (List ℕ)
last_five trace = drop (length trace - 5) trace

-- ---- which entries of the dialplan of the test file

-- an entry that ran, if it is one of the dialplan of the test file
abbrev pub entered_by : Option ℕ → EntryId → List EntryId
entered_by None id = id ∷ []
entered_by (Some file) id = []

-- the entries of that dialplan among those that ran, of which the first has this place
abbrev pub entered_from : List PlanChange → ℕ → List RanEntry → List EntryId
entered_from changes place [] = []
entered_from changes place (ran ∷ later) = entered_by (plan_at changes place) ran.id ++ entered_from changes (place + 1) later

-- all of them
unfoldable pub entered_entries : List PlanChange → List RanEntry → List EntryId
entered_entries changes ran = entered_from changes 0 ran
