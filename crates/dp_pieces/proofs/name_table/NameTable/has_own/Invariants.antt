use Rattle.std.proofs.Common.{◌≡◌, ℕ, ◌<◌, List, Some, slice_get, Vec, Global}
use Rattle.dp_pieces.specs.Bytes.{IsPart}
use Rattle.dp_pieces.specs.Sets.{set_by}
use Rattle.dp_pieces.proofs.name_table.NameTable.has_own.Given as goal

abbrev pub invariant-loop-at : goal.invariant-loop-at
invariant-loop-at l = (k : ℕ) (entry : Vec ℕ Global × List ℕ) → k < l.at → slice_get l.entries k ≡ Some entry → IsPart (set_by entry.1) (set_by l.self.all)
