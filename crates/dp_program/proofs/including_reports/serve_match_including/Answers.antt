use Rattle.std.proofs.Common.{ℕ, List, Err, sym, subst}
use Rattle.dp_program.specs.Dialplans.{OnDialplan, ReadsDialplan}
use Rattle.dp_program.specs.Files.{ByteSource}
use Rattle.dp_program.specs.Including.{MayTellOf}
use Rattle.dp_program.specs.Requests.{lookup_of, options_of}
use Rattle.dp_program.specs.Serves.{LooksUp, LooksUpText}
use Rattle.dp_program.proofs.ServesLemmas.{matching_lacks}
use Rattle.dp_program.specs.declared.dialplans.PlanUse.{PlanUse}
use Rattle.dp_program.specs.declared.fault_places.Faulted.{Faulted}
use Rattle.dp_program.proofs.DialplanLemmas.{dialplan_known, dialplan_refused}
use Rattle.dp_program.proofs.including_reports.serve_match_including.Goals as goal

-- the look-up uses the generated text
pub returns-in-Ok-Loads-clause-serves : goal.returns-in-Ok-Loads-clause-serves
returns-in-Ok-Loads-clause-serves g c =
    let old = g.W.WriteTold.contents c.args.output.now in
    let new = g.W.WriteTold.contents c.serve_match.new.output in
    subst (λ (purpose : PlanUse). ReadsDialplan purpose (options_of c.args.manner.options).clock (g.F.ReadFiles.source_at c.args.files.now) c.args.lookup.now.file.now (LooksUpText (lookup_of c.args.lookup.now) (g.F.ReadFiles.source_at c.args.files.now) c.args.manner.all (options_of c.args.manner.options) old new) old new c.serve_match.result)
    c.look_up_use.ensures
    (dialplan_known c.look_up_use.result (options_of c.args.manner.options).clock c.args.lookup.now.file.now (MayTellOf (g.F.ReadFiles.source_at c.args.files.now) c.args.lookup.now.file.now) _
    (λ read. OnDialplan (LooksUpText (lookup_of c.args.lookup.now) (g.F.ReadFiles.source_at c.args.files.now) c.args.manner.all (options_of c.args.manner.options) old new) c.args.lookup.now.file.now old new read c.serve_match.result)
    (rw c.in-Ok-Loads.field-0-is at c.in-Ok-Loads.ensures.read)
    (subst (λ (made : List ℕ → ByteSource). LooksUp (lookup_of c.args.lookup.now) (made c.args.lookup.now.file.now) c.args.manner.all (options_of c.args.manner.options) old new c.serve_match.result) c.made_files-made.ensures c.serve_match.ensures.serves))

-- the first file could not be read
pub returns-in-Err-clause-serves : goal.returns-in-Err-clause-serves
returns-in-Err-clause-serves g c =
    subst (λ (purpose : PlanUse). ReadsDialplan purpose (options_of c.args.manner.options).clock (g.F.ReadFiles.source_at c.args.files.now) c.args.lookup.now.file.now (LooksUpText (lookup_of c.args.lookup.now) (g.F.ReadFiles.source_at c.args.files.now) c.args.manner.all (options_of c.args.manner.options) (g.W.WriteTold.contents c.args.output.now) (g.W.WriteTold.contents c.args.output.now)) (g.W.WriteTold.contents c.args.output.now) (g.W.WriteTold.contents c.args.output.now) (Err c.from.result))
    c.look_up_use.ensures
    (subst (λ (faulted : Faulted). ReadsDialplan c.look_up_use.result (options_of c.args.manner.options).clock (g.F.ReadFiles.source_at c.args.files.now) c.args.lookup.now.file.now (LooksUpText (lookup_of c.args.lookup.now) (g.F.ReadFiles.source_at c.args.files.now) c.args.manner.all (options_of c.args.manner.options) (g.W.WriteTold.contents c.args.output.now) (g.W.WriteTold.contents c.args.output.now)) (g.W.WriteTold.contents c.args.output.now) (g.W.WriteTold.contents c.args.output.now) (Err faulted))
    (sym c.from.ensures)
    (dialplan_refused (LooksUpText (lookup_of c.args.lookup.now) (g.F.ReadFiles.source_at c.args.files.now) c.args.manner.all (options_of c.args.manner.options) (g.W.WriteTold.contents c.args.output.now) (g.W.WriteTold.contents c.args.output.now)) c.args.lookup.now.file.now (g.W.WriteTold.contents c.args.output.now)
    (matching_lacks (lookup_of c.args.lookup.now) (g.F.ReadFiles.source_at c.args.files.now) c.args.manner.all (options_of c.args.manner.options) (g.W.WriteTold.contents c.args.output.now)) c.look_up_use.result (options_of c.args.manner.options).clock (g.F.ReadFiles.source_at c.args.files.now) _ c.in-Err.ensures.path c.in-Err.ensures.read))
