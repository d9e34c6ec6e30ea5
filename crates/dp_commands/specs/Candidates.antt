-- The report on all extensions that match a dialled text: which one answers, and what decides about each.
use Rattle.std.specs.Prelude.{ℕ, List, [], ◌∷◌, ◌++◌, Option, None, Some, Result, Ok, codes, slice_get}
use Rattle.std.specs.List.{flat_map}
use Rattle.dp_audit.specs.Candidates.{candidates_of}
use Rattle.dp_audit.specs.declared.candidate.Candidate.{Candidate}
use Rattle.dp_audit.specs.declared.candidate.Verdict.{Verdict}
use Rattle.dp_audit.specs.declared.candidate.Verdict.TheVariants.{Answers, LessSpecific, LaterContext, NoSuchPriority}
use Rattle.dp_conf.specs.Answers.{◌>>=◌}
use Rattle.dp_lookup.specs.SearchOrder.{search_order}
use Rattle.dp_pattern.specs.Spelling.{spelling}
use Rattle.dp_plan.specs.Contexts.{PlanContext}
use Rattle.dp_plan.specs.Loaded.{plan_and_notes}
use Rattle.dp_plan.specs.Plan.{PlanOf}
use Rattle.dp_plan.specs.declared.entry.Entry.{Entry}
use Rattle.dp_plan.specs.declared.entry.EntryId.{EntryId}
use Rattle.dp_commands.specs.Report.{answering, match_line}
use Rattle.dp_commands.specs.Run.{plan_fault}
use Rattle.dp_commands.specs.Trace.{entry_text, place_text}
use Rattle.dp_commands.specs.declared.fault.PbxFault.{PbxFault}

-- the text for what decides about an extension
abbrev pub verdict_text : Verdict → List ℕ
verdict_text Answers = codes "answers"
verdict_text LessSpecific = codes "less specific"
verdict_text LaterContext = codes "later context"
verdict_text NoSuchPriority = codes "no such priority"

-- the extension of an entry, with a priority that it may lack, `CONTEXT,NAME,PRIORITY`
abbrev pub extension_by : ℕ → PlanContext → Option Entry → List ℕ
extension_by priority context None = []
extension_by priority context (Some entry) = place_text context.name (spelling entry.name) priority

abbrev pub extension_in : ℕ → ℕ → Option PlanContext → List ℕ
extension_in priority number None = []
extension_in priority number (Some context) = extension_by priority context (slice_get context.entries number)

-- the extension of the entry with these numbers, with a priority that it may lack
abbrev pub extension_text : PlanOf → ℕ → EntryId → List ℕ
extension_text plan priority id = extension_in priority id.entry (slice_get plan.contexts id.context)

-- the subject of a decision: the extension's entry or, if it lacks the priority, the extension
abbrev pub subject_text : PlanOf → ℕ → EntryId → Verdict → List ℕ
subject_text plan priority id Answers = entry_text plan id
subject_text plan priority id LessSpecific = entry_text plan id
subject_text plan priority id LaterContext = entry_text plan id
subject_text plan priority id NoSuchPriority = extension_text plan priority id

-- the line of a candidate, `CONTEXT,NAME,PRIORITY APP: WHAT DECIDES`, or `CONTEXT,NAME,PRIORITY: no such priority`
abbrev pub candidate_line : PlanOf → ℕ → Candidate → List ℕ
candidate_line plan priority candidate =
    subject_text plan priority candidate.id candidate.verdict ++ codes ": " ++ verdict_text candidate.verdict ++ 10 ∷ []

-- the candidates of a dialplan for a dialled text at a priority, from a context on
abbrev pub answering_candidates : PlanOf → List ℕ → List ℕ → ℕ → List Candidate
answering_candidates plan context text priority = candidates_of plan (search_order plan context) text priority

-- the line of the entry that answers, followed by the lines of the candidates
abbrev pub candidates_text : PlanOf → ℕ → Option EntryId → List Candidate → List ℕ
candidates_text plan priority found candidates = match_line plan found ++ flat_map (candidate_line plan priority) candidates

abbrev pub all_text : PlanOf → List ℕ → List ℕ → ℕ → List ℕ
all_text plan context text priority =
    candidates_text plan priority (answering plan context text priority) (answering_candidates plan context text priority)

-- the report on all matching extensions, or the fault of the dialplan's text
unfoldable pub match_all_of : List ℕ → List ℕ → List ℕ → ℕ → Result (List ℕ) PbxFault
match_all_of plan context text priority = plan_fault (plan_and_notes plan) >>= λ read. Ok (all_text read.0 context text priority)
