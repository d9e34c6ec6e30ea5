use Rattle.std.proofs.Common.{Option, subst}
use Rattle.dp_notices.specs.PlanFiles.{plan_of}
use Rattle.dp_program.specs.Including.{ChecksIncluding}
use Rattle.dp_program.proofs.including.serve_check_including.Goals as goal
use Rattle.dp_wide.specs.declared.times.Moment.{Moment}

-- what is known of the files is what was read, by the moment of the options
pub returns-clause-serves : goal.returns-clause-serves
returns-clause-serves g c =
    let read = c.read_folder_plan-read.ensures in
    let old = g.W.WriteTold.contents c.args.output.now in
    let new = g.W.WriteTold.contents c.check_read.new.output in
    subst (λ (moment : Option Moment). ChecksIncluding c.args.options.is_json moment c.args.file.now (g.F.ReadFiles.source_at c.args.files.now) old new c.check_read.result)
    c.moment_in.ensures
    (read.0, read.1, λ has agrees. c.check_read.ensures.writes (plan_of c.moment_in.result has c.args.file.now) (read.2 has agrees))
