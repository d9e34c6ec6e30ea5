use Rattle.std.proofs.Common.{ℕ, List, Err, sym, subst}
use Rattle.dp_program.specs.Dialplans.{OnDialplan, ReadsDialplan}
use Rattle.dp_program.specs.Files.{ByteSource}
use Rattle.dp_program.specs.Including.{MayTellOf}
use Rattle.dp_program.specs.Requests.{options_of}
use Rattle.dp_program.specs.Serves.{AuditsFileBy, AuditsText}
use Rattle.dp_program.proofs.ServesLemmas.{auditing_lacks}
use Rattle.dp_wide_runs.specs.Kinds.{choice_of}
use Rattle.dp_program.specs.declared.dialplans.PlanUse.TheVariants.{Report}
use Rattle.dp_program.specs.declared.fault_places.Faulted.{Faulted}
use Rattle.dp_program.proofs.DialplanLemmas.{dialplan_known, dialplan_refused}
use Rattle.dp_program.proofs.including_reports.serve_audit_including.Goals as goal

-- the audit uses the generated text
pub returns-in-Ok-Loads-clause-serves : goal.returns-in-Ok-Loads-clause-serves
returns-in-Ok-Loads-clause-serves g c =
    let old = g.W.WriteTold.contents c.args.output.now in
    let new = g.W.WriteTold.contents c.serve_audit_by.new.output in
    dialplan_known Report (options_of c.args.asked.options).clock c.args.asked.file.now (MayTellOf (g.F.ReadFiles.source_at c.args.files.now) c.args.asked.file.now) _
    (λ read. OnDialplan (AuditsText c.args.asked.options.is_json (choice_of c.args.asked.choice) c.args.asked.file.now (g.F.ReadFiles.source_at c.args.files.now) old new) c.args.asked.file.now old new read c.serve_audit_by.result)
    (rw c.in-Ok-Loads.field-0-is at c.in-Ok-Loads.ensures.read)
    (subst (λ (made : List ℕ → ByteSource). AuditsFileBy c.args.asked.options.is_json (choice_of c.args.asked.choice) c.args.asked.file.now (made c.args.asked.file.now) old new c.serve_audit_by.result) c.made_files-made.ensures c.serve_audit_by.ensures.serves)

-- the first file could not be read
pub returns-in-Err-clause-serves : goal.returns-in-Err-clause-serves
returns-in-Err-clause-serves g c =
    subst (λ (faulted : Faulted). ReadsDialplan Report (options_of c.args.asked.options).clock (g.F.ReadFiles.source_at c.args.files.now) c.args.asked.file.now (AuditsText c.args.asked.options.is_json (choice_of c.args.asked.choice) c.args.asked.file.now (g.F.ReadFiles.source_at c.args.files.now) (g.W.WriteTold.contents c.args.output.now) (g.W.WriteTold.contents c.args.output.now)) (g.W.WriteTold.contents c.args.output.now) (g.W.WriteTold.contents c.args.output.now) (Err faulted))
    (sym c.from.ensures)
    (dialplan_refused (AuditsText c.args.asked.options.is_json (choice_of c.args.asked.choice) c.args.asked.file.now (g.F.ReadFiles.source_at c.args.files.now) (g.W.WriteTold.contents c.args.output.now) (g.W.WriteTold.contents c.args.output.now)) c.args.asked.file.now (g.W.WriteTold.contents c.args.output.now)
    (auditing_lacks c.args.asked.options.is_json (choice_of c.args.asked.choice) c.args.asked.file.now (g.F.ReadFiles.source_at c.args.files.now) (g.W.WriteTold.contents c.args.output.now)) Report (options_of c.args.asked.options).clock (g.F.ReadFiles.source_at c.args.files.now) _ c.in-Err.ensures.path c.in-Err.ensures.read)
