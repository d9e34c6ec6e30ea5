-- The objects of the entry that answers a dialled text, and of all extensions that match it.
use Rattle.std.specs.Prelude.{ℕ, List, [], ◌∷◌, Option, Some, None, codes}
use Rattle.std.specs.List.{flat_map}
use Rattle.dp_audit.specs.Findings.{context_name}
use Rattle.dp_audit.specs.declared.candidate.Candidate.{Candidate}
use Rattle.dp_audit.specs.declared.candidate.Verdict.{Verdict}
use Rattle.dp_audit.specs.declared.candidate.Verdict.TheVariants.{Answers, LessSpecific, LaterContext, NoSuchPriority}
use Rattle.dp_pattern.specs.Spelling.{spelling}
use Rattle.dp_plan.specs.Lookup.{entry_at}
use Rattle.dp_plan.specs.Plan.{PlanOf}
use Rattle.dp_plan.specs.declared.entry.Entry.{Entry}
use Rattle.dp_plan.specs.declared.entry.EntryId.{EntryId}
use Rattle.dp_json.specs.Entries.{entry_fields, place_fields}
use Rattle.dp_json.specs.Objects.{Field, object_text, text_field, type_field}

-- the object of the entry that answers, or of none
abbrev pub match_object : PlanOf → Option EntryId → List Field
match_object plan None = type_field (codes "none") ∷ []
match_object plan (Some id) = type_field (codes "match") ∷ entry_fields plan id

-- the word for what decides about an extension
abbrev pub verdict_word : Verdict → List ℕ
verdict_word Answers = codes "Answers"
verdict_word LessSpecific = codes "LessSpecific"
verdict_word LaterContext = codes "LaterContext"
verdict_word NoSuchPriority = codes "NoSuchPriority"

-- the extension of an entry, with a priority that it may lack
abbrev pub extension_by : ℕ → List ℕ → Option Entry → List Field
extension_by priority context None = []
extension_by priority context (Some entry) = place_fields context (spelling entry.name) priority

unfoldable pub extension_fields : PlanOf → ℕ → EntryId → List Field
extension_fields plan priority id = extension_by priority (context_name plan id.context) (entry_at plan id)

-- the subject of a decision: the extension's entry or, if it lacks the priority, the extension
abbrev pub decided_fields : PlanOf → ℕ → EntryId → Verdict → List Field
decided_fields plan priority id Answers = entry_fields plan id
decided_fields plan priority id LessSpecific = entry_fields plan id
decided_fields plan priority id LaterContext = entry_fields plan id
decided_fields plan priority id NoSuchPriority = extension_fields plan priority id

-- the object of a candidate
abbrev pub candidate_object : PlanOf → ℕ → Candidate → List Field
candidate_object plan priority candidate =
    type_field (codes "candidate") ∷ text_field (codes "kind") (verdict_word candidate.verdict)
    ∷ decided_fields plan priority candidate.id candidate.verdict

-- the line of a candidate
unfoldable pub candidate_line : PlanOf → ℕ → Candidate → List ℕ
candidate_line plan priority candidate = object_text (candidate_object plan priority candidate)

-- the lines of candidates, in their order
abbrev pub candidates_text : PlanOf → ℕ → List Candidate → List ℕ
candidates_text plan priority candidates = flat_map (candidate_line plan priority) candidates
