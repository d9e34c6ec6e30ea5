-- The objects of the findings of an audit: each has the fields of the entry that it is about, and then those of its own subject.
use Rattle.std.specs.Prelude.{ℕ, ◌+◌, List, [], ◌∷◌, ◌++◌, Option, Some, None, codes}
use Rattle.std.specs.List.{flat_map}
use Rattle.dp_audit.specs.Findings.{context_name}
use Rattle.dp_audit.specs.declared.finding.Finding.{Finding}
use Rattle.dp_audit.specs.declared.finding.Finding.TheVariants.{Cycle, NoApplication, NoTarget, Gap, NoFirst, Hidden, Unset, Unused}
use Rattle.dp_plan.specs.Lookup.{entry_at}
use Rattle.dp_plan.specs.Plan.{PlanOf}
use Rattle.dp_plan.specs.declared.entry.Entry.{Entry}
use Rattle.dp_plan.specs.declared.entry.EntryId.{EntryId}
use Rattle.dp_json.specs.Entries.{context_field, entry_fields}
use Rattle.dp_json.specs.Objects.{Field, more_text, number_field, object_text, opening, text_field, type_field}

-- the word for a kind of finding
abbrev pub kind_of : Finding → List ℕ
kind_of (Cycle number) = codes "Cycle"
kind_of (NoApplication id) = codes "NoApplication"
kind_of (NoTarget id target) = codes "NoTarget"
kind_of (Gap id) = codes "Gap"
kind_of (NoFirst id) = codes "NoFirst"
kind_of (Hidden id from) = codes "Hidden"
kind_of (Unset id name) = codes "Unset"
kind_of (Unused id) = codes "Unused"

-- the priority that an extension lacks, behind that of an entry
abbrev pub missing_by : Option Entry → List Field
missing_by None = []
missing_by (Some entry) = number_field (codes "missing") (entry.priority + 1) ∷ []

abbrev pub missing_fields : PlanOf → EntryId → List Field
missing_fields plan id = missing_by (entry_at plan id)

-- what a finding is about
unfoldable pub subject_fields : PlanOf → Finding → List Field
subject_fields plan (Cycle number) = context_field (context_name plan number) ∷ []
subject_fields plan (NoApplication id) = entry_fields plan id
subject_fields plan (NoTarget id target) = entry_fields plan id ++ text_field (codes "target") target ∷ []
subject_fields plan (Gap id) = entry_fields plan id ++ missing_fields plan id
subject_fields plan (NoFirst id) = entry_fields plan id
subject_fields plan (Hidden id from) = entry_fields plan id ++ text_field (codes "from") (context_name plan from) ∷ []
subject_fields plan (Unset id name) = entry_fields plan id ++ text_field (codes "variable") name ∷ []
subject_fields plan (Unused id) = entry_fields plan id

-- the object of a finding with a kind and a subject
abbrev pub finding_with : List ℕ → List Field → List Field
finding_with kind subject = type_field (codes "finding") ∷ text_field (codes "kind") kind ∷ subject

-- the start of its line
abbrev pub finding_opening : List ℕ → List ℕ
finding_opening kind = opening (type_field (codes "finding")) ++ more_text (text_field (codes "kind") kind)

-- the object of a finding
abbrev pub finding_object : PlanOf → Finding → List Field
finding_object plan finding = finding_with (kind_of finding) (subject_fields plan finding)

-- the line of a finding
unfoldable pub finding_line : PlanOf → Finding → List ℕ
finding_line plan finding = object_text (finding_object plan finding)

-- the lines of findings, in their order
abbrev pub findings_text : PlanOf → List Finding → List ℕ
findings_text plan findings = flat_map (finding_line plan) findings

-- the object of the number of findings
abbrev pub count_object : ℕ → List Field
count_object count = type_field (codes "count") ∷ number_field (codes "findings") count ∷ []
