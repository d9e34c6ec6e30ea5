use Rattle.std.proofs.Common.{Err, sym, subst}
use Rattle.std.specs.Option.{option_map}
use Rattle.dp_program.specs.Dialplans.{OnDialplan, ReadsDialplan}
use Rattle.dp_program.specs.Including.{MayTellOf}
use Rattle.dp_program.specs.Serves.{RunsQueues}
use Rattle.dp_program.specs.Texts.{paths_of}
use Rattle.dp_program.specs.WideRuns.{manner_of, reading_of}
use Rattle.dp_program.proofs.ServesLemmas.{queues_plan_lacks}
use Rattle.dp_program.specs.declared.dialplans.PlanUse.TheVariants.{Run}
use Rattle.dp_program.specs.declared.fault_places.Faulted.{Faulted}
use Rattle.dp_program.proofs.DialplanLemmas.{dialplan_known, dialplan_refused}
use Rattle.dp_program.proofs.wide_runs.serve_run_assuming.Goals as goal

-- the run uses the generated text
pub returns-in-Ok-Loads-clause-serves : goal.returns-in-Ok-Loads-clause-serves
returns-in-Ok-Loads-clause-serves g c =
    let old = g.W.WriteTold.contents c.args.output.now in
    let new = g.W.WriteTold.contents c.run_with_queues.new.output in
    dialplan_known (Run c.args.asked.assumed) (option_map (λ word. word.now) c.args.asked.clock) c.args.asked.files.now.plan.now (MayTellOf (g.F.ReadFiles.source_at c.args.files.now) c.args.asked.files.now.plan.now) _
    (λ read. OnDialplan (RunsQueues (reading_of c.args.asked) (paths_of c.args.asked.files.now) (g.F.ReadFiles.source_at c.args.files.now) (manner_of c.args.asked) old new) c.args.asked.files.now.plan.now old new read c.run_with_queues.result)
    (rw c.in-Ok-Loads.field-0-is at c.in-Ok-Loads.ensures.read) c.run_with_queues.ensures.serves

-- the first file could not be read
pub returns-in-Err-clause-serves : goal.returns-in-Err-clause-serves
returns-in-Err-clause-serves g c =
    subst (λ (faulted : Faulted). ReadsDialplan (Run c.args.asked.assumed) (option_map (λ word. word.now) c.args.asked.clock) (g.F.ReadFiles.source_at c.args.files.now) c.args.asked.files.now.plan.now (RunsQueues (reading_of c.args.asked) (paths_of c.args.asked.files.now) (g.F.ReadFiles.source_at c.args.files.now) (manner_of c.args.asked) (g.W.WriteTold.contents c.args.output.now) (g.W.WriteTold.contents c.args.output.now)) (g.W.WriteTold.contents c.args.output.now) (g.W.WriteTold.contents c.args.output.now) (Err faulted))
    (sym c.from.ensures)
    (dialplan_refused (RunsQueues (reading_of c.args.asked) (paths_of c.args.asked.files.now) (g.F.ReadFiles.source_at c.args.files.now) (manner_of c.args.asked) (g.W.WriteTold.contents c.args.output.now) (g.W.WriteTold.contents c.args.output.now)) c.args.asked.files.now.plan.now (g.W.WriteTold.contents c.args.output.now)
    (queues_plan_lacks (reading_of c.args.asked) (paths_of c.args.asked.files.now) (g.F.ReadFiles.source_at c.args.files.now) (manner_of c.args.asked) (g.W.WriteTold.contents c.args.output.now)) (Run c.args.asked.assumed) (option_map (λ word. word.now) c.args.asked.clock) (g.F.ReadFiles.source_at c.args.files.now) _ c.in-Err.ensures.path c.in-Err.ensures.read)
