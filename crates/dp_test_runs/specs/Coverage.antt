-- Which entries of a dialplan tests ran.
use Rattle.std.specs.Prelude.{ℕ, ◌+◌, Bool, ◌&&◌, ◌==◌, List, [], ◌∷◌, ◌++◌, length, filter, Result, Ok, codes, decimal, if◌then◌else◌}
use Rattle.std.specs.List.{flat_map, list_any}
use Rattle.std.specs.Option.{option_map_or}
use Rattle.dp_conf.specs.Answers.{◌>>=◌}
use Rattle.dp_pattern.specs.Spelling.{spelling}
use Rattle.dp_plan.specs.Contexts.{PlanContext}
use Rattle.dp_plan.specs.Loaded.{plan_and_notes}
use Rattle.dp_plan.specs.Lookup.{entry_at, line_at}
use Rattle.dp_plan.specs.Plan.{PlanOf}
use Rattle.dp_plan.specs.declared.entry.Entry.{Entry}
use Rattle.dp_plan.specs.declared.entry.EntryId.{EntryId}
use Rattle.dp_commands.specs.LinePlaces.{line_place, places_of}
use Rattle.dp_commands.specs.Run.{plan_fault}
use Rattle.dp_commands.specs.Trace.{place_text}
use Rattle.dp_commands.specs.Verbose.{lines_in}
use Rattle.dp_commands.specs.declared.fault.PbxFault.{PbxFault}
use Rattle.dp_commands.specs.declared.line_places.LinePlaces.{LinePlaces}
use Rattle.dp_test_runs.specs.Ran.{context_name}
use Rattle.dp_test_runs.specs.declared.coverage.CoveredPlan.{CoveredPlan}

-- ---- the entries of a dialplan

-- the entry with these numbers
abbrev pub id_of : ℕ → ℕ → EntryId
id_of context entry = record { context = context; entry = entry }

-- the numbers of entries of a context, of which the first has this number
abbrev pub ids_in : ℕ → ℕ → List Entry → List EntryId
ids_in context number [] = []
ids_in context number (entry ∷ entries) = id_of context number ∷ ids_in context (number + 1) entries

-- the numbers of the entries of contexts, of which the first has this number
abbrev pub ids_from : ℕ → List PlanContext → List EntryId
ids_from number [] = []
ids_from number (context ∷ contexts) = ids_in number 0 context.entries ++ ids_from (number + 1) contexts

-- the numbers of all entries, in the order of the dialplan
unfoldable pub ids_of : PlanOf → List EntryId
ids_of plan = ids_from 0 plan.contexts

-- whether two entries have the same numbers
abbrev pub same_id : EntryId → EntryId → Bool
same_id a b = a.context == b.context && a.entry == b.entry

-- whether an entry is one of those that tests ran
abbrev pub has_run : List EntryId → EntryId → Bool
has_run ran id = list_any (same_id id) ran

-- an entry, unless tests ran it
abbrev pub unless_run : List EntryId → EntryId → List EntryId
unless_run ran id = if has_run ran id then [] else id ∷ []

-- the entries of a dialplan that no test ran, in its order
unfoldable pub never_run : PlanOf → List EntryId → List EntryId
never_run plan ran = flat_map (unless_run ran) (ids_of plan)

-- ---- the text

-- how many entries tests ran, of how many
abbrev pub covered_line : ℕ → ℕ → List ℕ
covered_line covered count = codes "# covered " ++ decimal covered ++ codes " of " ++ decimal count ++ codes " entries\n"

-- an entry, `CONTEXT,NAME,PRIORITY APP`
abbrev pub entry_shown : PlanOf → ℕ → Entry → List ℕ
entry_shown plan context entry =
    place_text (context_name plan context) (spelling entry.name) entry.priority ++ codes " " ++ entry.application

-- the line of an entry that no test ran
abbrev pub never_line : List ℕ → List ℕ → List ℕ
never_line place shown = codes "# never " ++ place ++ codes " " ++ shown ++ codes "\n"

-- the same for the entry with these numbers of a dialplan, whose lines come from these places, and whose entries have these lines
abbrev pub never_at : LinePlaces → List (List ℕ) → PlanOf → EntryId → List ℕ
never_at places lines plan id =
    option_map_or (λ entry. never_line (line_place (places_of places) (line_at lines id)) (entry_shown plan id.context entry)) (entry_at plan id) []

-- the same for an entry if no test ran it
abbrev pub never_by : LinePlaces → List (List ℕ) → PlanOf → List EntryId → EntryId → List ℕ
never_by places lines plan ran id = if has_run ran id then [] else never_at places lines plan id

-- the coverage of a dialplan by the entries that tests ran: how many there are, then each that is not among them
unfoldable pub coverage_of : LinePlaces → List (List ℕ) → PlanOf → List EntryId → List ℕ
coverage_of places lines plan ran =
    covered_line (length (filter (has_run ran) (ids_of plan))) (length (ids_of plan))
    ++ flat_map (never_by places lines plan ran) (ids_of plan)

-- the same for the dialplan that a text holds, or the first fault of the text
unfoldable pub coverage_in : CoveredPlan → List EntryId → Result (List ℕ) PbxFault
coverage_in plan ran =
    plan_fault (plan_and_notes plan.text.now) >>= λ read. Ok (coverage_of plan.places (lines_in plan.text.now) read.0 ran)
