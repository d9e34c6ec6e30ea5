use Rattle.std.proofs.Common.{◌≡◌, ◌++◌, drop}
use Rattle.dp_pieces.specs.Pieces.{exactly}
use Rattle.dp_pieces.specs.Shown.{shown_all}
use Rattle.dp_closed.proofs.claim_check.exact_pieces.Given as goal

abbrev pub invariant-loop-byte : goal.invariant-loop-byte
invariant-loop-byte l = shown_all l.pieces.items ++ exactly (drop l.byte-index l.text) ≡ exactly l.text
