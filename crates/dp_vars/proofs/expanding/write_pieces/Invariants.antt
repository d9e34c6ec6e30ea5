use Rattle.std.proofs.Common.{length}
use Rattle.dp_vars.specs.Sights.{sight_of}
use Rattle.dp_vars.proofs.PiecesLemmas.{IsWriting}
use Rattle.dp_vars.proofs.expanding.write_pieces.Given as goal

abbrev pub invariant-loop-piece : goal.invariant-loop-piece
invariant-loop-piece g l = IsWriting g.F.Functions.table (sight_of g.C.Counts.count l.scope) l.text l.expanding l.left l.pieces

abbrev pub decreases-loop-piece : goal.decreases-loop-piece
decreases-loop-piece g l = length l.left
