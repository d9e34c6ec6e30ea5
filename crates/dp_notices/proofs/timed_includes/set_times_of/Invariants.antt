use Rattle.std.proofs.Common.{◌≡◌, drop}
use Rattle.dp_notices.specs.TimedIncludes.{with_times_of}
use Rattle.dp_notices.proofs.timed_includes.set_times_of.Given as goal

abbrev pub invariant-loop-fault : goal.invariant-loop-fault
invariant-loop-fault l = with_times_of l.moment (drop l.fault-index l.faults) l.lines.items ≡ with_times_of l.moment l.faults l.fn.lines.items
