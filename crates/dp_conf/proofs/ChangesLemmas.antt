-- Lists with one element changed.
use Rattle.std.proofs.Common.{◌≡◌, ℕ, zero, suc, ◌<◌, ◌≤◌, List, [], ◌∷◌, refl, length, get_or, set, ap, ◌∙◌, arith}
use Rattle.dp_conf.specs.Changes.{changed_at}

module _ {X : Type 0} where
  -- a write at a place changes the element there
  pub changed_at-set : (change : X → X) (place : ℕ) (xs : List X) (x y : X) → place < length xs → x ≡ get_or xs place x → y ≡ change x
      → set xs place y ≡ changed_at change place xs
  changed_at-set change place [] x y within here new = absurd (omega (arith, within))
  changed_at-set change zero (z ∷ xs) x y within here new = ap (λ (t : _). t ∷ xs) (new ∙ ap change here)
  changed_at-set change (suc place) (z ∷ xs) x y within here new =
      ap (λ (t : List _). z ∷ t) (changed_at-set change place xs x y (omega (arith, within)) here new)

  -- a place after the end of the list changes nothing
  pub changed_at-past : (change : X → X) (place : ℕ) (xs : List X) → length xs ≤ place → changed_at change place xs ≡ xs
  changed_at-past change place [] past = refl
  changed_at-past change zero (x ∷ xs) past = absurd (omega (arith, past))
  changed_at-past change (suc place) (x ∷ xs) past = ap (λ (t : List _). x ∷ t) (changed_at-past change place xs (omega (arith, past)))
