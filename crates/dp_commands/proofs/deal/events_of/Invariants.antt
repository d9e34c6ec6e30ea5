use Rattle.std.specs.Prelude.{◌≡◌, take}
use Rattle.dp_commands.specs.Script.{turns_of}
use Rattle.dp_commands.specs.Threads.{events_in}
use Rattle.dp_commands.proofs.deal.events_of.Given as goal

abbrev pub invariant-loop-line : goal.invariant-loop-line
invariant-loop-line l = l.events.items ≡ events_in (turns_of (take l.line-index l.lines))
