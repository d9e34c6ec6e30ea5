-- The entry of a path that comes first in the file, found from one place on.
use Rattle.std.proofs.Common.{◌≡◌, ℕ, ◌+◌, ◌<◌, ◌≤◌, inl, inr, true, false, List, length, slice_get, Some, arith, sym, subst, ◌∙◌}
use Rattle.std.proofs.lemmas.Bool.{cases_lt}
use Rattle.std.proofs.lemmas.Option.{same_Some, slice_get_within}
use Rattle.dp_plan.specs.declared.entry.EntryId.{EntryId}
use Rattle.dp_audit.specs.Loops.{is_before}
use Rattle.dp_audit.specs.steps.Walks.{IsFrom, IsLeastFrom}
use Rattle.dp_audit.proofs.OrderOfFile.{is_before_itself, is_before_less}

-- of the entries from one place up to another, none comes before it
pub record IsLeastBelow (path : List EntryId) (place number : ℕ) (least : EntryId) : Type 0 where
  pub among : IsFrom path place least
  pub before : (k : ℕ) (y : EntryId) → place ≤ k → k < number → slice_get path k ≡ Some y → is_before y least ≡ false

-- for one entry and those before it
split_last : (path : List EntryId) (place number : ℕ) (least next : EntryId) → slice_get path number ≡ Some next
    → ((k : ℕ) (y : EntryId) → place ≤ k → k < number → slice_get path k ≡ Some y → is_before y least ≡ false) → is_before next least ≡ false
    → (k : ℕ) (y : EntryId) → place ≤ k → k < number + 1 → slice_get path k ≡ Some y → is_before y least ≡ false
split_last path place number least next there before last k y late early here = elim (cases_lt k number) [
  | inl lower ↦ before k y late lower here
  | inr higher ↦
      let same : number ≡ k = omega (arith, early, higher) in
      let found : slice_get path k ≡ Some next = subst (λ (n : ℕ). slice_get path n ≡ Some next) same there in
      subst (λ (z : EntryId). is_before z least ≡ false) (same_Some next y (sym found ∙ here)) last
]

module _ (path : List EntryId) (place : ℕ) where
  -- the one at the place
  pub least_begin : (x : EntryId) → slice_get path place ≡ Some x → IsLeastBelow path place (place + 1) x
  least_begin x there = record {
    among = record { number = place; late = omega arith; there = there };
    before = split_last path place place x x there (λ k y late early here. absurd (omega (arith, late, early))) (is_before_itself x);
  }

  -- one more that does not come before it
  pub least_kept : (number : ℕ) (least next : EntryId) → slice_get path number ≡ Some next → IsLeastBelow path place number least → is_before next least ≡ false
      → IsLeastBelow path place (number + 1) least
  least_kept number least next there is other = record {
    among = is.among;
    before = split_last path place number least next there is.before other;
  }

  -- one more that does
  pub least_changed : (number : ℕ) (least next : EntryId) → place < number → slice_get path number ≡ Some next → IsLeastBelow path place number least
      → is_before next least ≡ true → IsLeastBelow path place (number + 1) next
  least_changed number least next after there is less = record {
    among = record { number = number; late = omega (arith, after); there = there };
    before = split_last path place number next next there
        (λ k y late early here. is_before_less y least next (is.before k y late early here) less) (is_before_itself next);
  }

  -- all of them
  pub least_of_all : (number : ℕ) (least : EntryId) → length path ≤ number → IsLeastBelow path place number least → IsLeastFrom is_before path place least
  least_of_all number least all is = record {
    among = is.among;
    least = λ y from. is.before from.number y from.late (omega (arith, all, slice_get_within path from.number y from.there)) from.there;
  }
