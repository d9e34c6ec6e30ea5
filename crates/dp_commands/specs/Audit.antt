-- The report of an audit: a line for each finding, and how many there are.
use Rattle.std.specs.Prelude.{◌≡◌, ℕ, ◌+◌, List, [], ◌∷◌, ◌++◌, length, Option, None, Some, Result, Ok, Err, codes, decimal}
use Rattle.std.specs.Io.KnownBytes.{Appends}
use Rattle.std.specs.List.{flat_map}
use Rattle.std.specs.Option.{option_and_then, option_map_or}
use Rattle.dp_conf.specs.Answers.{◌>>=◌}
use Rattle.dp_conf.specs.Fronts.{AppendsFront}
use Rattle.dp_pattern.specs.Spelling.{spelling}
use Rattle.dp_plan.specs.Loaded.{plan_and_notes}
use Rattle.dp_plan.specs.Lookup.{entry_at}
use Rattle.dp_plan.specs.Plan.{PlanOf}
use Rattle.dp_plan.specs.declared.entry.Entry.{Entry}
use Rattle.dp_plan.specs.declared.entry.EntryId.{EntryId}
use Rattle.dp_audit.specs.Findings.{context_name, findings_of}
use Rattle.dp_audit.specs.declared.finding.Finding.{Finding}
use Rattle.dp_audit.specs.declared.finding.Finding.TheVariants.{Cycle, NoApplication, NoTarget, Gap, NoFirst, Hidden, Unset, Unused}
use Rattle.dp_app.specs.Rows.{has_row}
use Rattle.dp_table.specs.Standard.{standard_rows}
use Rattle.dp_commands.specs.Run.{plan_fault}
use Rattle.dp_commands.specs.Trace.{entry_text, place_text}
use Rattle.dp_commands.specs.declared.findings.AuditOutcome.{AuditOutcome}
use Rattle.dp_commands.specs.declared.fault.Code.TheVariants.{WriteFailed}
use Rattle.dp_commands.specs.declared.fault.PbxFault.{PbxFault}
use Rattle.dp_commands.specs.declared.fault.PbxFault.TheVariants.{Coded, NoMemory}

-- the position of an entry, `CONTEXT,NAME,PRIORITY`
abbrev pub spot_by : PlanOf → EntryId → Option Entry → List ℕ
spot_by plan id None = []
spot_by plan id (Some entry) = place_text (context_name plan id.context) (spelling entry.name) entry.priority

abbrev pub spot_text : PlanOf → EntryId → List ℕ
spot_text plan id = spot_by plan id (entry_at plan id)

-- the priority after the entry's own
abbrev pub next_priority : PlanOf → EntryId → List ℕ
next_priority plan id = option_map_or (λ entry. decimal (entry.priority + 1)) (entry_at plan id) []

-- the label of an entry
abbrev pub label_text : PlanOf → EntryId → List ℕ
label_text plan id = option_map_or (λ label. label) (option_and_then (λ entry. entry.label) (entry_at plan id)) []

-- a finding: `KIND CONTEXT,NAME,PRIORITY`, then the finding's subject
abbrev pub finding_text : PlanOf → Finding → List ℕ
finding_text plan (Cycle number) = codes "Cycle " ++ context_name plan number
finding_text plan (NoApplication id) = codes "NoApplication " ++ entry_text plan id
finding_text plan (NoTarget id target) = codes "NoTarget " ++ spot_text plan id ++ codes " " ++ target
finding_text plan (Gap id) = codes "Gap " ++ spot_text plan id ++ codes " " ++ next_priority plan id
finding_text plan (NoFirst id) = codes "NoFirst " ++ spot_text plan id
finding_text plan (Hidden id from) = codes "Hidden " ++ spot_text plan id ++ codes " " ++ context_name plan from
finding_text plan (Unset id name) = codes "Unset " ++ spot_text plan id ++ codes " " ++ name
finding_text plan (Unused id) = codes "Unused " ++ spot_text plan id ++ codes " " ++ label_text plan id

-- the line of a finding
abbrev pub finding_line : PlanOf → Finding → List ℕ
finding_line plan finding = finding_text plan finding ++ 10 ∷ []

-- the result of an audit: its text, and its status, which is 1 if there are findings
pub record Audited : Type 0 where
  pub text : List ℕ
  pub status : ℕ

abbrev pub outcome_told : AuditOutcome → Audited
outcome_told report = record { text = report.text.begun; status = report.status }

abbrev pub status_by : List Finding → ℕ
status_by [] = 0
status_by (finding ∷ findings) = 1

-- the lines of the findings, then the line `ok N findings`
abbrev pub audit_text : PlanOf → List Finding → List ℕ
audit_text plan findings = flat_map (finding_line plan) findings ++ codes "ok " ++ decimal (length findings) ++ codes " findings\n"

abbrev pub audit_outcome : PlanOf → List Finding → Audited
audit_outcome plan findings = record { text = audit_text plan findings; status = status_by findings }

-- the audit of the dialplan that a text holds, or the text's fault
unfoldable pub audit_of : List ℕ → Result Audited PbxFault
audit_of plan = plan_fault (plan_and_notes plan) >>= λ read. Ok (audit_outcome read.0 (findings_of (has_row standard_rows) read.0))

-- the output and result of an audit: the whole text and the status or, if a write fails, a prefix of the text
abbrev pub WritesAudit : Option (List ℕ) → Option (List ℕ) → Result Audited PbxFault → Result ℕ PbxFault → Type 0
WritesAudit old new (Ok report) (Ok status) = Appends old new report.text × (status ≡ report.status)
WritesAudit old new (Ok report) (Err (Coded code line)) = AppendsFront old new report.text × (code ≡ WriteFailed) × (line ≡ None)
WritesAudit old new (Ok report) (Err NoMemory) = Appends old new []
WritesAudit old new (Err fault) (Ok status) = ⊥
WritesAudit old new (Err fault) (Err (Coded code line)) = Appends old new [] × (fault ≡ Coded code line)
WritesAudit old new (Err fault) (Err NoMemory) = Appends old new []
