use Rattle.std.specs.Prelude.{◌≡◌, ◌+◌, ◌≤◌, length, take}
use Rattle.dp_board.specs.steps.Presence.{MarksSeats, unmarked_in}
use Rattle.dp_board.proofs.presence.mark_seats.Given as goal

abbrev pub invariant-loop-i : goal.invariant-loop-i
invariant-loop-i g l = record {
  len : length l.present ≡ length l.fn.present;
  marks : MarksSeats l.fn.present (take l.i l.seats) l.present;
  count : unmarked_in l.fn.present ≤ unmarked_in l.present + l.i;
}
