-- The report of an audit for some kinds of findings, over this program's applications or over the wide table.
use Rattle.std.specs.Prelude.{◌≡◌, ℕ, List, [], ◌∷◌, ◌++◌, length, Option, Result, Ok, Err, codes, decimal}
use Rattle.std.specs.Io.KnownBytes.{Appends}
use Rattle.std.specs.List.{flat_map}
use Rattle.dp_conf.specs.Answers.{◌>>=◌}
use Rattle.dp_plan.specs.Loaded.{plan_and_notes}
use Rattle.dp_plan.specs.Plan.{PlanOf}
use Rattle.dp_commands.specs.Audit.{Audited, WritesAudit, finding_text, spot_text}
use Rattle.dp_commands.specs.Run.{plan_fault}
use Rattle.dp_commands.specs.declared.fault.PbxFault.{PbxFault}
use Rattle.dp_commands.specs.declared.fault.PbxFault.TheVariants.{Coded, NoMemory}
use Rattle.dp_wide_runs.specs.Kinds.{ChoiceOf}
use Rattle.dp_wide_runs.specs.WideFindings.{AreTold}
use Rattle.dp_wide_runs.specs.declared.wide_audit.WideAuditOutcome.{WideAuditOutcome}
use Rattle.dp_wide_runs.specs.declared.wide_finding.WideFinding.{WideFinding}
use Rattle.dp_wide_runs.specs.declared.wide_finding.WideFinding.TheVariants.{Plain, FallsThrough, EndlessRun, NoFunction}

-- a finding: `KIND CONTEXT,NAME,PRIORITY`, then the finding's subject
abbrev pub wide_text : PlanOf → WideFinding → List ℕ
wide_text plan (Plain finding) = finding_text plan finding
wide_text plan (FallsThrough found) = codes "FallsThrough " ++ spot_text plan found.entry ++ codes " " ++ spot_text plan found.next
wide_text plan (EndlessRun run) = codes "Loop " ++ spot_text plan run.first
wide_text plan (NoFunction id name) = codes "NoFunction " ++ spot_text plan id ++ codes " " ++ name

-- the line of a finding
abbrev pub wide_line : PlanOf → WideFinding → List ℕ
wide_line plan finding = wide_text plan finding ++ 10 ∷ []

-- the lines of the findings, then the line `ok N findings`
abbrev pub findings_text : PlanOf → List WideFinding → List ℕ
findings_text plan findings = flat_map (wide_line plan) findings ++ codes "ok " ++ decimal (length findings) ++ codes " findings\n"

-- the status of an audit with these findings: 1 if there are any
abbrev pub status_of : List WideFinding → ℕ
status_of [] = 0
status_of (finding ∷ findings) = 1

-- the report of these findings
abbrev pub report_of : PlanOf → List WideFinding → Audited
report_of plan findings = record { text = findings_text plan findings; status = status_of findings }

-- the report of an outcome
abbrev pub outcome_report : WideAuditOutcome → Audited
outcome_report report = record { text = report.text.begun; status = report.status }

-- a report of an audit of the dialplan: it lists all findings that are to be reported, and no others
pub record IsAuditReport (choice : ChoiceOf) (plan : PlanOf) (report : Audited) : Type 0 where
  pub findings : List WideFinding
  pub told : AreTold choice plan findings
  pub whole : report ≡ report_of plan findings

-- the output and result of an audit of the dialplan: such a report or, if a write fails, a prefix of one
pub record WritesReport (choice : ChoiceOf) (plan : PlanOf) (old new : Option (List ℕ)) (result : Result ℕ PbxFault) : Type 0 where
  pub report : Audited
  pub audit : IsAuditReport choice plan report
  pub writes : WritesAudit old new (Ok report) result

-- the dialplan that a text holds, or the text's fault
unfoldable pub plan_of : List ℕ → Result PlanOf PbxFault
plan_of text = plan_fault (plan_and_notes text) >>= λ read. Ok read.0

-- the output and result of an audit, given the dialplan or the fault of its text
abbrev pub WritesChoice : ChoiceOf → Option (List ℕ) → Option (List ℕ) → Result PlanOf PbxFault → Result ℕ PbxFault → Type 0
WritesChoice choice old new (Ok plan) (Ok status) = WritesReport choice plan old new (Ok status)
WritesChoice choice old new (Ok plan) (Err (Coded code line)) = WritesReport choice plan old new (Err (Coded code line))
WritesChoice choice old new (Ok plan) (Err NoMemory) = Appends old new []
WritesChoice choice old new (Err fault) (Ok status) = ⊥
WritesChoice choice old new (Err fault) (Err (Coded code line)) = Appends old new [] × (fault ≡ Coded code line)
WritesChoice choice old new (Err fault) (Err NoMemory) = Appends old new []
