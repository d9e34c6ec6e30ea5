use Rattle.std.specs.Prelude.{◌≡◌, ◌++◌, replicate}
use Rattle.dp_commands.proofs.deal.push_copies.Given as goal

abbrev pub invariant-loop-copy : goal.invariant-loop-copy
invariant-loop-copy l = l.events.items ≡ l.fn.events.items ++ replicate l._copy l.event
