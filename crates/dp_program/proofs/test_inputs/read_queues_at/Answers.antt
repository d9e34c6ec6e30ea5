use Rattle.dp_notices.specs.QueueFiles.{queues_of}
use Rattle.dp_program.proofs.test_inputs.read_queues_at.Goals as goal

-- what is known of the files is what was read
pub returns : goal.returns
returns g c =
    let read = c.read_folder_queues-read.ensures in
    (read.0, read.1, λ has agrees. c.in_ok-queues.ensures (queues_of has c.args.at.now) (read.2 has agrees))
