use Rattle.std.proofs.Common.{Err, Some, sym, subst}
use Rattle.std.specs.Option.{option_map}
use Rattle.dp_program.specs.Dialplans.{OnDialplan, ReadsDialplan, text_now}
use Rattle.dp_program.specs.Including.{MayTellOf}
use Rattle.dp_program.specs.Serves.{RunsPlans}
use Rattle.dp_program.specs.Texts.{paths_of}
use Rattle.dp_program.specs.WideRuns.{manner_of}
use Rattle.dp_program.specs.declared.dialplans.PlanUse.TheVariants.{Run}
use Rattle.dp_program.specs.declared.fault_places.Faulted.{Faulted}
use Rattle.dp_program.proofs.DialplanLemmas.{dialplan_known, dialplan_refused}
use Rattle.dp_program.proofs.ServesLemmas.{plans_lack}
use Rattle.dp_program.proofs.wide_runs.run_after.Goals as goal

-- the run uses the generated text
pub returns-in-Ok-Loads-clause-serves : goal.returns-in-Ok-Loads-clause-serves
returns-in-Ok-Loads-clause-serves g c =
    let old = g.W.WriteTold.contents c.args.output.now in
    let new = g.W.WriteTold.contents c.run_both.new.output in
    dialplan_known (Run c.args.asked.assumed) (option_map (λ word. word.now) c.args.asked.clock) c.args.first.path.now (MayTellOf (g.F.ReadFiles.source_at c.args.files.now) c.args.first.path.now) _
    (λ read. OnDialplan (λ second answered. RunsPlans (paths_of c.args.asked.files.now) (g.F.ReadFiles.source_at c.args.files.now) (manner_of c.args.asked) old new (text_now c.args.first.plan.now) (Some (c.args.first.path.now, second)) answered) c.args.first.path.now old new read c.run_both.result)
    (rw c.in-Ok-Loads.field-0-is at c.in-Ok-Loads.ensures.read) c.run_both.ensures.serves

-- the second dialplan's file could not be read
pub returns-in-Err-clause-serves : goal.returns-in-Err-clause-serves
returns-in-Err-clause-serves g c =
    subst (λ (faulted : Faulted). ReadsDialplan (Run c.args.asked.assumed) (option_map (λ word. word.now) c.args.asked.clock) (g.F.ReadFiles.source_at c.args.files.now) c.args.first.path.now (λ second answered. RunsPlans (paths_of c.args.asked.files.now) (g.F.ReadFiles.source_at c.args.files.now) (manner_of c.args.asked) (g.W.WriteTold.contents c.args.output.now) (g.W.WriteTold.contents c.args.output.now) (text_now c.args.first.plan.now) (Some (c.args.first.path.now, second)) answered) (g.W.WriteTold.contents c.args.output.now) (g.W.WriteTold.contents c.args.output.now) (Err faulted))
    (sym c.from.ensures)
    (dialplan_refused (λ second answered. RunsPlans (paths_of c.args.asked.files.now) (g.F.ReadFiles.source_at c.args.files.now) (manner_of c.args.asked) (g.W.WriteTold.contents c.args.output.now) (g.W.WriteTold.contents c.args.output.now) (text_now c.args.first.plan.now) (Some (c.args.first.path.now, second)) answered) c.args.first.path.now (g.W.WriteTold.contents c.args.output.now)
    (λ second. plans_lack (paths_of c.args.asked.files.now) (g.F.ReadFiles.source_at c.args.files.now) (manner_of c.args.asked) (g.W.WriteTold.contents c.args.output.now) (text_now c.args.first.plan.now) (Some (c.args.first.path.now, second))) (Run c.args.asked.assumed) (option_map (λ word. word.now) c.args.asked.clock) (g.F.ReadFiles.source_at c.args.files.now) _ c.in-Err.ensures.path c.in-Err.ensures.read)
