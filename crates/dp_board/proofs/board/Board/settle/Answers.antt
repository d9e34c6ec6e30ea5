use Rattle.std.proofs.Common.{◌≤◌, length, subst}
use Rattle.dp_board.specs.Settled.{AllPresent}
use Rattle.dp_board.proofs.board.Board.settle.Goals as goal

-- all seats are there, as their table says
pub close-requires-clause-present : goal.close-requires-clause-present
close-requires-clause-present g c =
    subst (λ count. AllPresent count c.args.seats.items × (count ≤ length c.args.seats.items)) c.self.view_is
    (subst (λ seats. AllPresent c.self.inside.seats seats × (c.self.inside.seats ≤ length seats)) c.deref.ensures.value c.in-Ok.ensures.present)
