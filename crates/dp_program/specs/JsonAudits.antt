-- The reports of `audit` as JSON: an object on a line of its own for each line that is printed otherwise.
use Rattle.std.specs.Prelude.{◌≡◌, ℕ, List, [], ◌++◌, length, Option, Result, Ok, Err}
use Rattle.std.specs.Io.KnownBytes.{Appends}
use Rattle.dp_app.specs.Rows.{has_row}
use Rattle.dp_audit.specs.Findings.{findings_of}
use Rattle.dp_audit.specs.declared.finding.Finding.{Finding}
use Rattle.dp_conf.specs.Answers.{◌>>=◌}
use Rattle.dp_plan.specs.Loaded.{plan_and_notes}
use Rattle.dp_plan.specs.Plan.{PlanOf}
use Rattle.dp_table.specs.Standard.{standard_rows}
use Rattle.dp_commands.specs.Audit.{Audited, WritesAudit, status_by}
use Rattle.dp_commands.specs.Run.{plan_fault}
use Rattle.dp_commands.specs.declared.fault.PbxFault.{PbxFault}
use Rattle.dp_commands.specs.declared.fault.PbxFault.TheVariants.{Coded, NoMemory}
use Rattle.dp_json.specs.Findings.{count_object, findings_text}
use Rattle.dp_json.specs.Objects.{object_text}
use Rattle.dp_json.specs.WideFindings.{wide_text}
use Rattle.dp_program.specs.declared.json_audits.AuditLines.{AuditLines}
use Rattle.dp_wide_runs.specs.Kinds.{ChoiceOf}
use Rattle.dp_wide_runs.specs.WideAudits.{status_of}
use Rattle.dp_wide_runs.specs.WideFindings.{AreTold}
use Rattle.dp_wide_runs.specs.declared.wide_finding.WideFinding.{WideFinding}

-- the report that has these lines and this status
abbrev pub audit_report : AuditLines → Audited
audit_report report = record { text = report.lines.items; status = report.status }

-- the report of these findings: their lines, then their number
abbrev pub report_of : PlanOf → List Finding → Audited
report_of plan findings = record {
  text = findings_text plan findings ++ object_text (count_object (length findings));
  status = status_by findings;
}

-- the report on the dialplan that a text holds, or the text's fault: the findings are those of `audit` without `--json`
unfoldable pub audit_json_of : List ℕ → Result Audited PbxFault
audit_json_of plan = plan_fault (plan_and_notes plan) >>= λ read. Ok (report_of read.0 (findings_of (has_row standard_rows) read.0))

-- ---- for some kinds of findings, or over the wide table

-- the report of these findings: their lines, then their number
abbrev pub wide_report_of : PlanOf → List WideFinding → Audited
wide_report_of plan findings = record {
  text = wide_text plan findings ++ object_text (count_object (length findings));
  status = status_of findings;
}

-- a report on the dialplan: it has all findings that are to be reported, and no others
pub record IsJsonAudit (choice : ChoiceOf) (plan : PlanOf) (report : Audited) : Type 0 where
  pub findings : List WideFinding
  pub told : AreTold choice plan findings
  pub whole : report ≡ wide_report_of plan findings

-- the output and result for such a report: the whole of it or, if a write fails, a prefix of it
pub record WritesJsonReport (choice : ChoiceOf) (plan : PlanOf) (old new : Option (List ℕ)) (result : Result ℕ PbxFault) : Type 0 where
  pub report : Audited
  pub audit : IsJsonAudit choice plan report
  pub writes : WritesAudit old new (Ok report) result

-- the same, given the dialplan or the fault of its text
abbrev pub WritesJsonChoice : ChoiceOf → Option (List ℕ) → Option (List ℕ) → Result PlanOf PbxFault → Result ℕ PbxFault → Type 0
WritesJsonChoice choice old new (Ok plan) (Ok status) = WritesJsonReport choice plan old new (Ok status)
WritesJsonChoice choice old new (Ok plan) (Err (Coded code line)) = WritesJsonReport choice plan old new (Err (Coded code line))
WritesJsonChoice choice old new (Ok plan) (Err NoMemory) = Appends old new []
WritesJsonChoice choice old new (Err fault) (Ok status) = ⊥
WritesJsonChoice choice old new (Err fault) (Err (Coded code line)) = Appends old new [] × (fault ≡ Coded code line)
WritesJsonChoice choice old new (Err fault) (Err NoMemory) = Appends old new []
