use Rattle.std.proofs.Common.{◌≡◌, length}
use Rattle.dp_pattern.specs.Name.{pieces_of, parts_of}
use Rattle.dp_pattern.proofs.PieceLemmas.{with_front}
use Rattle.dp_pattern.proofs.reading.read_parts.Given as goal

abbrev pub invariant-loop-piece : goal.invariant-loop-piece
invariant-loop-piece l =
    with_front l.classes.items (parts_of (pieces_of l.rest)) ≡ parts_of (pieces_of l.fn.text)

abbrev pub decreases-loop-piece : goal.decreases-loop-piece
decreases-loop-piece l = length l.rest
