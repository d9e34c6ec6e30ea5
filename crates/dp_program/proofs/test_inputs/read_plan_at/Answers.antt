use Rattle.dp_notices.specs.PlanFiles.{plan_of}
use Rattle.dp_program.proofs.test_inputs.read_plan_at.Goals as goal

-- what is known of the files is what was read
pub returns : goal.returns
returns g c =
    let read = c.read_folder_plan-read.ensures in
    (read.0, read.1, λ has agrees. c.in_ok-dialplan.ensures (plan_of c.args.reading.clock has c.args.at.now) (read.2 has agrees))
