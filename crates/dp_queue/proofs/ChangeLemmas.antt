-- Lists with one element changed or left out.
use Rattle.std.proofs.Common.{◌≡◌, ℕ, zero, suc, ◌+◌, ◌<◌, ◌≤◌, Bool, true, false, not, List, [], ◌∷◌, ◌++◌, Option, Some, None, refl, sym, length, ap, ◌∙◌, arith, if◌then◌else◌, slice_get, take, drop, nat_lt, IsSome, OnSome, OnOk, Result, Ok, Err, subst}
use Rattle.std.proofs.lemmas.List.Elements.{All-cons, All-head, All-tail}
use Rattle.std.specs.List.{All, position_or_len, position, remove}
use Rattle.std.proofs.lemmas.Option.{cond_some, same_Some}
use borrow.Author.Tests.{ltb-true, ltb-false}
use Rattle.std.specs.Option.{option_map}
use Rattle.dp_conf.specs.Changes.{changed_at}
use Rattle.dp_queue.specs.Changes.{without}

module _ {X : Type 0} where
  -- a change keeps the length
  pub length-changed_at : (change : X → X) (place : ℕ) (xs : List X) → length (changed_at change place xs) ≡ length xs
  length-changed_at change place [] = refl
  length-changed_at change zero (x ∷ xs) = refl
  length-changed_at change (suc place) (x ∷ xs) = ap suc (length-changed_at change place xs)

  -- the element at the place after a change
  pub slice_get-changed_same : (change : X → X) (place : ℕ) (xs : List X)
      → slice_get (changed_at change place xs) place ≡ option_map change (slice_get xs place)
  slice_get-changed_same change place [] = refl
  slice_get-changed_same change zero (x ∷ xs) = refl
  slice_get-changed_same change (suc place) (x ∷ xs) = slice_get-changed_same change place xs

  -- the element at another place
  pub slice_get-changed_other : (change : X → X) (place k : ℕ) (xs : List X) → (k ≡ place → ⊥)
      → slice_get (changed_at change place xs) k ≡ slice_get xs k
  slice_get-changed_other change place k [] other = refl
  slice_get-changed_other change zero zero (x ∷ xs) other = absurd (other refl)
  slice_get-changed_other change zero (suc k) (x ∷ xs) other = refl
  slice_get-changed_other change (suc place) zero (x ∷ xs) other = refl
  slice_get-changed_other change (suc place) (suc k) (x ∷ xs) other =
      slice_get-changed_other change place k xs (λ same. other (ap suc same))

  -- two changes that agree on the element at the place
  pub changed_at-same : (f g : X → X) (place : ℕ) (xs : List X) (x : X) → slice_get xs place ≡ Some x → f x ≡ g x → changed_at f place xs ≡ changed_at g place xs
  changed_at-same f g place [] x here same = refl
  changed_at-same f g zero (y ∷ xs) x here same =
      let is : y ≡ x = same_Some y x here in ap (λ (t : X). t ∷ xs) (ap f is ∙ same ∙ sym (ap g is))
  changed_at-same f g (suc place) (y ∷ xs) x here same = ap (λ (t : List X). y ∷ t) (changed_at-same f g place xs x here same)

  -- what holds of each element still holds after a change of one that keeps it
  pub all-changed_at : (P : X → Type 0) (change : X → X) (place : ℕ) (xs : List X)
      → ((x : X) → slice_get xs place ≡ Some x → P x → P (change x)) → All P xs → All P (changed_at change place xs)
  all-changed_at P change place [] keeps each = each
  all-changed_at P change zero (x ∷ xs) keeps each =
      All-cons P (change x) xs (keeps x refl (All-head P x xs each)) (All-tail P x xs each)
  all-changed_at P change (suc place) (x ∷ xs) keeps each =
      All-cons P x (changed_at change place xs) (All-head P x xs each) (all-changed_at P change place xs keeps (All-tail P x xs each))

  -- and of the element at a place
  pub all-at : (P : X → Type 0) (xs : List X) (place : ℕ) (x : X) → slice_get xs place ≡ Some x → All P xs → P x
  all-at P [] place x here each = absurd (cc)
  all-at P (y ∷ ys) zero x here each = subst P (same_Some y x here) (All-head P y ys each)
  all-at P (y ∷ ys) (suc place) x here each = all-at P ys place x here (All-tail P y ys each)

  -- the element at the first place is the one that is left out
  pub remove-first : (p : X → Bool) (xs : List X) → position_or_len p xs < length xs → remove xs (position_or_len p xs) ≡ without p xs
  remove-first p [] within = absurd (omega (arith, within))
  remove-first p (x ∷ xs) within = by (p x) (remove-first p xs) within
    where
      by : (b : Bool) → (position_or_len p xs < length xs → remove xs (position_or_len p xs) ≡ without p xs)
          → (if not b then 1 + position_or_len p xs else 0) < length (x ∷ xs)
          → take (if not b then 1 + position_or_len p xs else 0) (x ∷ xs) ++ drop (suc (if not b then 1 + position_or_len p xs else 0)) (x ∷ xs)
          ≡ (if b then xs else x ∷ without p xs)
      by true rest within = refl
      by false rest within =
          let one : 1 + position_or_len p xs ≡ suc (position_or_len p xs) = omega arith in
          ap (λ n. take n (x ∷ xs) ++ drop (suc n) (x ∷ xs)) one ∙ ap (λ (t : List X). x ∷ t) (rest (omega (arith, within)))

  -- without such an element nothing is left out
  pub without-none : (p : X → Bool) (xs : List X) → length xs ≤ position_or_len p xs → without p xs ≡ xs
  without-none p [] past = refl
  without-none p (x ∷ xs) past = by (p x) (without-none p xs) past
    where
      by : (b : Bool) → (length xs ≤ position_or_len p xs → without p xs ≡ xs)
          → length (x ∷ xs) ≤ (if not b then 1 + position_or_len p xs else 0) → (if b then xs else x ∷ without p xs) ≡ x ∷ xs
      by true rest past = absurd (omega (arith, past))
      by false rest past = ap (λ (t : List X). x ∷ t) (rest (omega (arith, past)))

  -- the same, given the place that was found
  pub remove-at_position : (p : X → Bool) (xs : List X) (place : ℕ) → Some place ≡ position p xs → remove xs place ≡ without p xs
  remove-at_position p xs place found =
      let parts : (nat_lt (position_or_len p xs) (length xs) ≡ true) × (position_or_len p xs ≡ place) = cond_some (nat_lt (position_or_len p xs) (length xs)) (position_or_len p xs) place (sym found) in
      ap (remove xs) (sym parts.1) ∙ remove-first p xs (ltb-true _ _ parts.0)

  -- the same if none was found
  pub without-no_position : (p : X → Bool) (xs : List X) → None ≡ position p xs → without p xs ≡ xs
  without-no_position p xs absent =
      without-none p xs (ltb-false (position_or_len p xs) (length xs) (cond_none _ _ (sym absent)))
    where
      cond_none : (b : Bool) (n : ℕ) → (if b then Some n else None) ≡ None → b ≡ false
      cond_none true n e = absurd (cc)
      cond_none false n e = refl

-- a fact about a value, if there is one
pub OnSome-some : {T P : Type 0} (o : Option T) → IsSome o → OnSome o P → P
OnSome-some None some p = absurd (cc)
OnSome-some (Some x) some p = p

-- a consequence of a fact about one outcome
pub on_ok : {T E P Q : Type 0} (r : Result T E) → (P → Q) → OnOk r P → OnOk r Q
on_ok (Ok x) f p = f p
on_ok (Err e) f p = tt
