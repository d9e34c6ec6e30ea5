use Rattle.std.specs.Prelude.{◌≡◌, ◌+◌, ◌<◌, ◌≤◌, ◌++◌, length, reverse, vec_len, vec_capacity}
use Rattle.dp_board.specs.Settled.{calls_of}
use Rattle.dp_board.proofs.joining.split_parts.Given as goal

abbrev pub invariant-loop-sheet : goal.invariant-loop-sheet
invariant-loop-sheet g l = record {
  seats : l.seats.items ++ reverse l.sheets.items ≡ reverse l.fn.sheets.items;
  room : vec_len l.seats + vec_len l.sheets ≤ vec_capacity l.seats;
  parts : length l.sheets.items < l.all.parts;
  amount : calls_of l.sheets.items ≤ l.all.amount;
}

abbrev pub decreases-loop-sheet : goal.decreases-loop-sheet
decreases-loop-sheet g l = vec_len l.sheets
