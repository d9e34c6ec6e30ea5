use Rattle.std.proofs.Common.{◌≡◌, ◌++◌, drop}
use Rattle.std.specs.List.{flat_map}
use Rattle.dp_notices.specs.QueueFiles.{queue_fault_notices}
use Rattle.dp_notices.proofs.queue_files.notices_of_faults.Given as goal

abbrev pub invariant-loop-fault : goal.invariant-loop-fault
invariant-loop-fault l = l.notices.items ++ flat_map queue_fault_notices (drop l.fault-index l.faults) ≡ flat_map queue_fault_notices l.faults
