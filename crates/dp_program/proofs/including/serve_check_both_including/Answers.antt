use Rattle.std.proofs.Common.{Option, subst}
use Rattle.dp_notices.specs.PlanFiles.{plan_of}
use Rattle.dp_notices.specs.QueueFiles.{queues_of}
use Rattle.dp_program.specs.Including.{ChecksBothIncluding}
use Rattle.dp_program.proofs.including.serve_check_both_including.Goals as goal
use Rattle.dp_wide.specs.declared.times.Moment.{Moment}

-- what is known of the files is what was read, by the moment of the options
pub returns-clause-serves : goal.returns-clause-serves
returns-clause-serves g c =
    let plan = c.read_folder_plan-plan.ensures in
    let queues = c.read_folder_queues-queues.ensures in
    let old = g.W.WriteTold.contents c.args.output.now in
    let new = g.W.WriteTold.contents c.check_both_read.new.output in
    let path = c.args.paths.now.plan.now in
    let queues_path = c.args.paths.now.queues.now in
    subst (λ (moment : Option Moment). ChecksBothIncluding c.args.options.is_json moment path queues_path (g.F.ReadFiles.source_at c.args.files.now) old new c.check_both_read.result)
    c.moment_in.ensures (
      plan.0,
      plan.1,
      λ has agrees. (
        queues.0,
        queues.1,
        λ held agreed.
            c.check_both_read.ensures.writes (plan_of c.moment_in.result has path) (queues_of held queues_path) (plan.2 has agrees) (queues.2 held agreed),
      ),
    )
