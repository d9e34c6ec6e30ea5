use Rattle.std.proofs.Common.{length}
use Rattle.dp_pieces.specs.steps.ReadSoFar.{read_of}
use Rattle.dp_pieces.proofs.OnWay.{IsOnWay}
use Rattle.dp_pieces.proofs.reader.read_pieces.Given as goal

abbrev pub invariant-loop-mark : goal.invariant-loop-mark
invariant-loop-mark g l = IsOnWay (g.G.GroupPieces.groups l.groups) l.text (read_of l.reading) l.rest

abbrev pub decreases-loop-mark : goal.decreases-loop-mark
decreases-loop-mark g l = length l.rest
