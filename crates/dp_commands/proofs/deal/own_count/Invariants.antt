use Rattle.std.specs.Prelude.{◌≡◌, ◌≤◌, length, take}
use Rattle.dp_commands.specs.Threads.{items_of_seat}
use Rattle.dp_commands.proofs.deal.own_count.Given as goal

abbrev pub invariant-loop-at : goal.invariant-loop-at
invariant-loop-at l = record {
  own : l.own ≡ length (items_of_seat l.count l.number (take l.at l.events));
  within : l.own ≤ l.at;
}
