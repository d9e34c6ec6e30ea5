use Rattle.std.proofs.Common.{rules, arith}
use Rattle.std.proofs.lemmas.List.FromFn.{map-range_with_len_more}
use Rattle.dp_board.specs.Sittings.{new_sitting}
use Rattle.dp_board.proofs.board.split_seats.Goals as goal

pub loop-number-preserved : goal.loop-number-preserved
loop-number-preserved g c =
    let n = c.loop-number.number in
    let more = map-range_with_len_more new_sitting 0 n n (omega arith) in
    (search rules, search rules, search (rules, more), search rules, search rules)
