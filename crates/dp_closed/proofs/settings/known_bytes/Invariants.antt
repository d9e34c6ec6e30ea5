use Rattle.std.proofs.Common.{◌≡◌, ◌++◌, drop}
use Rattle.dp_closed.specs.Steps.{known_bytes}
use Rattle.dp_pieces.specs.Shown.{shown_all}
use Rattle.dp_closed.proofs.settings.known_bytes.Given as goal

abbrev pub invariant-loop-piece : goal.invariant-loop-piece
invariant-loop-piece l = l.text.items ++ known_bytes (shown_all (drop l.piece-index l.pieces)) ≡ known_bytes (shown_all l.pieces)
