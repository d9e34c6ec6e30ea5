use Rattle.std.specs.Prelude.{take, All, MatchOption}
use Rattle.dp_board.specs.Settled.{Agrees, IsLeastDifference}
use Rattle.dp_board.proofs.settle.least_difference.Given as goal

abbrev pub invariant-loop-seat : goal.invariant-loop-seat
invariant-loop-seat g l = MatchOption l.least (All (Agrees l.entries) (take l.seat-index l.seats)) (IsLeastDifference l.entries (take l.seat-index l.seats))
