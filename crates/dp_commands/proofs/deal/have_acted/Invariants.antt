use Rattle.std.specs.Prelude.{◌≤◌, All, length, take}
use Rattle.dp_commands.specs.Threads.{items_of_seat}
use Rattle.dp_commands.proofs.deal.have_acted.Given as goal

abbrev pub invariant-loop-seat : goal.invariant-loop-seat
invariant-loop-seat g l = All (λ seat. length (items_of_seat (length l.seats) seat.number l.events) ≤ length seat.told) (take l.seat-index l.seats)
