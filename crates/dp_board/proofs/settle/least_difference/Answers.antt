use Rattle.std.proofs.Common.{rules, ◌≡◌, get_or}
use Rattle.dp_board.proofs.SettledLemmas.{Finds-next}
use Rattle.dp_board.proofs.settle.least_difference.Goals as goal

pub loop-seat-preserved : goal.loop-seat-preserved
loop-seat-preserved g c =
    let i = c.loop-seat.seat-index in
    let seats = c.args.seats.now in
    let seat = c.seat-item.result in
    let there : get_or seats i seat ≡ seat = search rules in
    Finds-next c.args.entries.now seats i seat c.loop-seat.least c.difference_of-found.result c.lesser-least.result
    c.loop-seat-test.true there c.lesser-least.ensures c.loop-seat.invariant c.difference_of-found.ensures
