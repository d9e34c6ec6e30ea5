use Rattle.std.proofs.Common.{◌≡◌, ℕ, true, drop, Some}
use Rattle.std.specs.Prelude.{slice_get}
use Rattle.dp_lookup.specs.SearchOrder.{has}
use Rattle.dp_lookup.proofs.visit.unmark.Given as goal

abbrev pub invariant-loop-number : goal.invariant-loop-number
invariant-loop-number l = (k : ℕ) → slice_get l.marks k ≡ Some true → has (drop l.number-index l.order) k ≡ true
