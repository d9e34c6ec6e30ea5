use Rattle.dp_board.proofs.PlacesLemmas.{StandBefore}
use Rattle.dp_board.proofs.places.is_record.Given as goal

abbrev pub invariant-loop-call : goal.invariant-loop-call
invariant-loop-call l = StandBefore l.seat l.entries l.told l.call-index l.next
