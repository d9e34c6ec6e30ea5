use Rattle.std.proofs.Common.{Err, sym, subst}
use Rattle.std.specs.Option.{option_map}
use Rattle.dp_program.specs.Dialplans.{OnDialplan, ReadsDialplan}
use Rattle.dp_program.specs.Including.{MayTellOf}
use Rattle.dp_program.specs.Serves.{ListsText}
use Rattle.dp_program.proofs.ServesLemmas.{listing_lacks}
use Rattle.dp_program.specs.declared.dialplans.PlanUse.TheVariants.{Report}
use Rattle.dp_program.specs.declared.fault_places.Faulted.{Faulted}
use Rattle.dp_program.proofs.DialplanLemmas.{dialplan_known, dialplan_refused}
use Rattle.dp_program.proofs.including_reports.serve_list_including.Goals as goal

-- the listing uses the generated text
pub returns-in-Ok-Loads-clause-serves : goal.returns-in-Ok-Loads-clause-serves
returns-in-Ok-Loads-clause-serves g c =
    let old = g.W.WriteTold.contents c.args.output.now in
    let new = g.W.WriteTold.contents c.list_text.new.output in
    dialplan_known Report (option_map (λ word. word.now) c.args.clock) c.args.file.now (MayTellOf (g.F.ReadFiles.source_at c.args.files.now) c.args.file.now) _
    (λ read. OnDialplan (ListsText c.args.file.now (g.F.ReadFiles.source_at c.args.files.now) old new) c.args.file.now old new read c.list_text.result)
    (rw c.in-Ok-Loads.field-0-is at c.in-Ok-Loads.ensures.read) c.list_text.ensures.serves

-- the first file could not be read
pub returns-in-Err-clause-serves : goal.returns-in-Err-clause-serves
returns-in-Err-clause-serves g c =
    subst (λ (faulted : Faulted). ReadsDialplan Report (option_map (λ word. word.now) c.args.clock) (g.F.ReadFiles.source_at c.args.files.now) c.args.file.now (ListsText c.args.file.now (g.F.ReadFiles.source_at c.args.files.now) (g.W.WriteTold.contents c.args.output.now) (g.W.WriteTold.contents c.args.output.now)) (g.W.WriteTold.contents c.args.output.now) (g.W.WriteTold.contents c.args.output.now) (Err faulted))
    (sym c.from.ensures)
    (dialplan_refused (ListsText c.args.file.now (g.F.ReadFiles.source_at c.args.files.now) (g.W.WriteTold.contents c.args.output.now) (g.W.WriteTold.contents c.args.output.now)) c.args.file.now (g.W.WriteTold.contents c.args.output.now)
    (listing_lacks c.args.file.now (g.F.ReadFiles.source_at c.args.files.now) (g.W.WriteTold.contents c.args.output.now)) Report (option_map (λ word. word.now) c.args.clock) (g.F.ReadFiles.source_at c.args.files.now) _ c.in-Err.ensures.path c.in-Err.ensures.read)
