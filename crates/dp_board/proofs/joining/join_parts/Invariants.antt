use Rattle.std.specs.Prelude.{◌≡◌, ◌+◌, ◌≤◌, ◌++◌, length, reverse, vec_len, vec_capacity}
use Rattle.dp_board.specs.Settled.{calls_of}
use Rattle.dp_board.proofs.joining.join_parts.Given as goal

abbrev pub invariant-loop-seat : goal.invariant-loop-seat
invariant-loop-seat g l = record {
  sheets : l.sheets.items ++ reverse l.seats.items ≡ reverse l.fn.seats.items;
  room : vec_len l.sheets + vec_len l.seats ≤ vec_capacity l.sheets;
  capacity : vec_capacity l.seats ≡ vec_capacity l.fn.seats;
  parts : l.all.parts + length l.seats.items ≡ l.fn.all.parts + length l.fn.seats.items;
  amount : l.all.amount + calls_of l.seats.items ≡ l.fn.all.amount + calls_of l.fn.seats.items;
  bound : l.all.parts ≤ g.S.Ledger.parts;
}

abbrev pub decreases-loop-seat : goal.decreases-loop-seat
decreases-loop-seat g l = vec_len l.seats
