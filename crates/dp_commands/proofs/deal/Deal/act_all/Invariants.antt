use Rattle.std.specs.Prelude.{◌≡◌, take}
use Rattle.dp_commands.specs.Threads.{items_of_seat, events_told}
use Rattle.dp_commands.proofs.deal.Deal.act_all.Given as goal

abbrev pub invariant-loop-at : goal.invariant-loop-at
invariant-loop-at g l = record {
  number : l.seat.number ≡ l.fn.seat.number;
  told : events_told l.seat.told ≡ items_of_seat l.count l.fn.seat.number (take l.at l.events);
}
