-- The findings of an audit for some kinds, over this program's applications or over the wide table.
use Rattle.std.specs.Prelude.{◌≡◌, ℕ, Bool, true, false, not, ◌&&◌, ◌||◌, List, [], ◌∷◌, ◌++◌, map, codes, if◌then◌else◌}
use Rattle.std.specs.List.{flat_map, range_with_len}
use Rattle.std.specs.Option.{option_map_or}
use Rattle.dp_conf.specs.Words.{same_word}
use Rattle.dp_lookup.specs.FoundEntry.{entries_at, passes}
use Rattle.dp_lookup.specs.SearchOrder.{context_count}
use Rattle.dp_plan.specs.Lookup.{entry_at}
use Rattle.dp_plan.specs.Plan.{PlanOf}
use Rattle.dp_plan.specs.Ranking.{ids_of}
use Rattle.dp_plan.specs.declared.entry.Entry.{Entry}
use Rattle.dp_plan.specs.declared.entry.EntryId.{EntryId}
use Rattle.dp_app.specs.Rows.{has_row}
use Rattle.dp_audit.specs.FallThroughs.{fall_throughs_of}
use Rattle.dp_audit.specs.Findings.{findings_of}
use Rattle.dp_audit.specs.Loops.{ListsLoops}
use Rattle.dp_audit.specs.Missing.{missing_of}
use Rattle.dp_audit.specs.declared.fall_through.FallThrough.{FallThrough}
use Rattle.dp_audit.specs.declared.finding.Finding.{Finding}
use Rattle.dp_audit.specs.declared.finding.Finding.TheVariants.{Cycle, NoApplication, NoTarget, Gap, NoFirst, Hidden, Unset, Unused}
use Rattle.dp_audit.specs.declared.loops.Loop.{Loop}
use Rattle.dp_table.specs.Standard.{standard_rows}
use Rattle.dp_wide.specs.Wide.{wide_rows}
use Rattle.dp_wide_runs.specs.FunctionsCalled.{no_functions_in}
use Rattle.dp_wide_runs.specs.Kinds.{ChoiceOf, is_told}
use Rattle.dp_wide_runs.specs.Mentions.{is_strange}
use Rattle.dp_wide_runs.specs.WideTargets.{wide_targets}
use Rattle.dp_wide_runs.specs.declared.wide_finding.WideFinding.{WideFinding}
use Rattle.dp_wide_runs.specs.declared.wide_finding.WideFinding.TheVariants.{Plain, FallsThrough, EndlessRun, NoFunction}

-- ---- the findings that an audit has with the applications of this program

-- the word that is printed for a finding
abbrev pub kind_of : Finding → List ℕ
kind_of (Cycle number) = codes "Cycle"
kind_of (NoApplication id) = codes "NoApplication"
kind_of (NoTarget id target) = codes "NoTarget"
kind_of (Gap id) = codes "Gap"
kind_of (NoFirst id) = codes "NoFirst"
kind_of (Hidden id from) = codes "Hidden"
kind_of (Unset id name) = codes "Unset"
kind_of (Unused id) = codes "Unused"

-- whether the wide table has the application of the entry with these numbers
abbrev pub has_wide_application : PlanOf → EntryId → Bool
has_wide_application plan id = passes plan (λ entry. has_row wide_rows entry.application) id

-- whether a finding is one over the wide table too: it is about no application that the wide table has, and about no variable that is given
-- or mentioned
abbrev pub is_wide_finding : PlanOf → Finding → Bool
is_wide_finding plan (Cycle number) = true
is_wide_finding plan (NoApplication id) = not (has_wide_application plan id)
is_wide_finding plan (NoTarget id target) = true
is_wide_finding plan (Gap id) = true
is_wide_finding plan (NoFirst id) = true
is_wide_finding plan (Hidden id from) = true
is_wide_finding plan (Unset id name) = is_strange plan name
is_wide_finding plan (Unused id) = true

-- whether a finding is one over the applications that are asked for
abbrev pub stands : Bool → PlanOf → Finding → Bool
stands false plan finding = true
stands true plan finding = is_wide_finding plan finding

-- a finding if it is one over these applications and its kind is reported
abbrev pub finding_if : ChoiceOf → PlanOf → Finding → List WideFinding
finding_if choice plan finding =
    if is_told choice.kinds (kind_of finding) && stands choice.is_wide plan finding then Plain finding ∷ [] else []

-- the findings that are reported, in the order of the file
abbrev pub findings_told : ChoiceOf → PlanOf → List WideFinding
findings_told choice plan = flat_map (finding_if choice plan) (findings_of (has_row standard_rows) plan)

-- ---- the findings that an audit has over the wide table alone

-- whether a kind over the wide table is reported
abbrev pub tells_wide : ChoiceOf → List ℕ → Bool
tells_wide choice kind = choice.is_wide && is_told choice.kinds kind

-- the targets of applications of the wide table that lead nowhere, if they are reported, in the order of the file
abbrev pub targets_told : ChoiceOf → PlanOf → List WideFinding
targets_told choice plan =
    if tells_wide choice (codes "NoTarget") then flat_map (finding_if choice plan) (missing_of wide_targets plan) else []

-- whether a channel never goes on to the next priority after an application with this name
abbrev pub ends_there : List ℕ → Bool
ends_there name =
    same_word name (codes "Hangup") || (same_word name (codes "Goto") || (same_word name (codes "Return") || (same_word name (codes "Busy")
    || same_word name (codes "Congestion"))))

-- the entry with the entry of another name that a channel meets after it, unless the channel never goes on after its application
abbrev pub fall_through_if : PlanOf → FallThrough → List WideFinding
fall_through_if plan found = if passes plan (λ entry. ends_there entry.application) found.entry then [] else FallsThrough found ∷ []

-- the fall-throughs that are reported, in the order of the file
abbrev pub fall_throughs_told : ChoiceOf → PlanOf → List WideFinding
fall_throughs_told choice plan =
    if tells_wide choice (codes "FallsThrough") then flat_map (fall_through_if plan) (fall_throughs_of plan) else []

-- whether a channel goes on to the next priority at once after an application with this name
abbrev pub goes_on_at_once : List ℕ → Bool
goes_on_at_once name =
    same_word name (codes "NoOp") || (same_word name (codes "Verbose") || (same_word name (codes "Log") || (same_word name (codes "Set")
    || (same_word name (codes "MSet") || (same_word name (codes "Answer") || (same_word name (codes "Ringing")
    || (same_word name (codes "Progress") || (same_word name (codes "Proceeding") || same_word name (codes "UserEvent")))))))))

-- the first entries of the endless runs, in the order of the file
pub record AreEndlessRuns (plan : PlanOf) (findings : List WideFinding) : Type 0 where
  pub loops : List Loop
  pub listed : ListsLoops goes_on_at_once plan loops
  pub told : findings ≡ map EndlessRun loops

-- the endless runs are reported, if their kind is
abbrev pub AreRunsTold : Bool → PlanOf → List WideFinding → Type 0
AreRunsTold false plan findings = findings ≡ []
AreRunsTold true plan findings = AreEndlessRuns plan findings

-- the names of functions that Asterisk does not have, in the arguments of an entry
abbrev pub of_entry : EntryId → Entry → List WideFinding
of_entry id entry = map (NoFunction id) (no_functions_in entry.arguments)

-- the names of such functions in the entry with these numbers; none if there is no such entry
abbrev pub of_id : PlanOf → EntryId → List WideFinding
of_id plan id = option_map_or (of_entry id) (entry_at plan id) []

-- the names of such functions in the entries of the context with a number, in the order of the file
abbrev pub of_context : PlanOf → ℕ → List WideFinding
of_context plan number = flat_map (of_id plan) (ids_of number (entries_at plan number))

-- the names of such functions in all contexts, in the order of the file
unfoldable pub no_functions : PlanOf → List WideFinding
no_functions plan = flat_map (of_context plan) (range_with_len 0 (context_count plan))

-- the names of such functions that are reported
abbrev pub functions_told : ChoiceOf → PlanOf → List WideFinding
functions_told choice plan = if tells_wide choice (codes "NoFunction") then no_functions plan else []

-- ---- all findings

-- the findings are all that are reported on the dialplan, in this order: those of an audit without the wide table, the targets of its
-- further applications that lead nowhere, the entries after which a channel goes on in another extension, the endless runs, and the
-- functions that Asterisk does not have
pub record AreTold (choice : ChoiceOf) (plan : PlanOf) (findings : List WideFinding) : Type 0 where
  pub runs : List WideFinding
  pub endless : AreRunsTold (tells_wide choice (codes "Loop")) plan runs
  pub all : findings ≡ findings_told choice plan ++ targets_told choice plan ++ fall_throughs_told choice plan ++ runs ++ functions_told choice plan
