use Rattle.std.specs.Prelude.{◌≡◌, ◌+◌, length}
use Rattle.dp_app.specs.Rows.{with_functions}
use Rattle.dp_board.specs.Attending.{AddsSteps, GoesOnAfter, calls_since}
use Rattle.dp_board.proofs.board.Board.attend.Given as goal

abbrev pub invariant-loop-turn : goal.invariant-loop-turn
invariant-loop-turn g l = record {
  steps : AddsSteps l.channel l.fn.seat l.seat;
  count : length l.seat.told ≡ length l.fn.seat.told + l.turn;
  on : GoesOnAfter (with_functions g.T.AppTable.rows g.T.Functions.Functions.table) g.S.Session.opening l.channel (calls_since l.fn.seat l.seat);
}
