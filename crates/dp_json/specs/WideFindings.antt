-- The objects of the findings of an audit that may use the wide table.
use Rattle.std.specs.Prelude.{ℕ, List, [], ◌∷◌, ◌++◌, Option, Some, None, codes}
use Rattle.std.specs.List.{flat_map}
use Rattle.dp_audit.specs.Findings.{context_name}
use Rattle.dp_pattern.specs.Spelling.{spelling}
use Rattle.dp_plan.specs.Lookup.{entry_at}
use Rattle.dp_plan.specs.Plan.{PlanOf}
use Rattle.dp_plan.specs.declared.entry.Entry.{Entry}
use Rattle.dp_plan.specs.declared.entry.EntryId.{EntryId}
use Rattle.dp_wide_runs.specs.declared.wide_finding.WideFinding.{WideFinding}
use Rattle.dp_wide_runs.specs.declared.wide_finding.WideFinding.TheVariants.{Plain, FallsThrough, EndlessRun, NoFunction}
use Rattle.dp_json.specs.Entries.{entry_fields}
use Rattle.dp_json.specs.Findings.{finding_with, kind_of, subject_fields}
use Rattle.dp_json.specs.Objects.{Field, number_field, object_text, text_field}

-- the word for a kind of finding
abbrev pub wide_kind : WideFinding → List ℕ
wide_kind (Plain finding) = kind_of finding
wide_kind (FallsThrough found) = codes "FallsThrough"
wide_kind (EndlessRun run) = codes "Loop"
wide_kind (NoFunction id name) = codes "NoFunction"

-- the parts of the place at which a call goes on
unfoldable pub next_context : List ℕ → Field
next_context context = text_field (codes "next_context") context

unfoldable pub next_name : List ℕ → Field
next_name name = text_field (codes "next_name") name

unfoldable pub next_priority : ℕ → Field
next_priority priority = number_field (codes "next_priority") priority

-- the entry at which a call goes on
abbrev pub next_by : List ℕ → Option Entry → List Field
next_by context None = []
next_by context (Some entry) = next_context context ∷ next_name (spelling entry.name) ∷ next_priority entry.priority ∷ []

unfoldable pub next_fields : PlanOf → EntryId → List Field
next_fields plan id = next_by (context_name plan id.context) (entry_at plan id)

-- what a finding is about
unfoldable pub wide_fields : PlanOf → WideFinding → List Field
wide_fields plan (Plain finding) = subject_fields plan finding
wide_fields plan (FallsThrough found) = entry_fields plan found.entry ++ next_fields plan found.next
wide_fields plan (EndlessRun run) = entry_fields plan run.first
wide_fields plan (NoFunction id name) = entry_fields plan id ++ text_field (codes "function") name ∷ []

-- the object of a finding
abbrev pub wide_object : PlanOf → WideFinding → List Field
wide_object plan finding = finding_with (wide_kind finding) (wide_fields plan finding)

-- the line of a finding
unfoldable pub wide_line : PlanOf → WideFinding → List ℕ
wide_line plan finding = object_text (wide_object plan finding)

-- the lines of findings, in their order
abbrev pub wide_text : PlanOf → List WideFinding → List ℕ
wide_text plan findings = flat_map (wide_line plan) findings
