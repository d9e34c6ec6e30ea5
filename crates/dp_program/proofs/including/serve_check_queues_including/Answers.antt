use Rattle.dp_notices.specs.QueueFiles.{queues_of}
use Rattle.dp_program.proofs.including.serve_check_queues_including.Goals as goal

-- what is known of the files is what was read
pub returns-clause-serves : goal.returns-clause-serves
returns-clause-serves g c =
    let read = c.read_folder_queues-read.ensures in
    (read.0, read.1, λ has agrees. c.check_queues_read.ensures.writes (queues_of has c.args.file.now) (read.2 has agrees))
