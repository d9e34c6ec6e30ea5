use Rattle.std.specs.Prelude.{◌≡◌, ◌+◌, ◌≤◌, map, vec_len, vec_capacity}
use Rattle.std.specs.List.{range_with_len}
use Rattle.dp_board.specs.Sittings.{new_sitting}
use Rattle.dp_board.proofs.board.split_seats.Given as goal

abbrev pub invariant-loop-number : goal.invariant-loop-number
invariant-loop-number g l =
    (l.share.parts + l.number ≡ l.count + 1) × (l.share.amount ≡ 0) × (l.seats.items ≡ map new_sitting (range_with_len 0 l.number)) × (vec_len l.seats ≡ l.number) × (l.count ≤ vec_capacity l.seats)
