-- What is written and what is left to write, and what was read, if the bytes are known.
use Rattle.std.proofs.Common.{◌≡◌, ℕ, ◌-◌, ◌≤◌, List, [], ◌∷◌, ◌++◌, Option, Some, None, length, take, drop, refl, ap, ◌∙◌, sym, subst, arith}
use Rattle.std.proofs.lemmas.List.{append_assoc, append-nil, take-append-drop, take_all, length-drop}
use Rattle.std.specs.Io.KnownBytes.{Appends, Keeps}
use Rattle.std.specs.Bool.{⊤}
use Rattle.dp_conf.specs.Fronts.{IsFront, AppendsFront}

-- known bytes stay at the front, and together with the rest they are the whole
abbrev pub GoesOn : Option (List ℕ) → Option (List ℕ) → List ℕ → List ℕ → Type 0
GoesOn None new bytes left = ⊤
GoesOn (Some xs) None bytes left = ⊥
GoesOn (Some xs) (Some ys) bytes left = (ys ++ left ≡ xs ++ bytes) × IsFront xs ys

-- a text is a prefix of itself with more after it
pub IsFront-append : (xs ys : List ℕ) → IsFront xs (xs ++ ys)
IsFront-append [] ys = refl
IsFront-append (x ∷ xs) ys = ap (λ (t : List ℕ). x ∷ t) (IsFront-append xs ys)

-- a prefix of a text is a prefix of it with more after it
pub IsFront-more : (xs ys zs : List ℕ) → IsFront xs ys → IsFront xs (ys ++ zs)
IsFront-more [] ys zs h = refl
IsFront-more (x ∷ xs) [] zs h = absurd cc
IsFront-more (x ∷ xs) (y ∷ ys) zs h =
    let heads : y ≡ x = cc in
    let tails : take (length xs) ys ≡ xs = cc in
    ap (λ n. n ∷ take (length xs) (ys ++ zs)) heads ∙ ap (λ (t : List ℕ). x ∷ t) (IsFront-more xs ys zs tails)

-- a prefix of a prefix
pub IsFront-trans : (xs ys zs : List ℕ) → IsFront xs ys → IsFront ys zs → IsFront xs zs
IsFront-trans [] ys zs h k = refl
IsFront-trans (x ∷ xs) [] zs h k = absurd cc
IsFront-trans (x ∷ xs) (y ∷ ys) [] h k = absurd cc
IsFront-trans (x ∷ xs) (y ∷ ys) (z ∷ zs) h k =
    let first : y ≡ x = cc in
    let second : z ≡ y = cc in
    let front : take (length xs) ys ≡ xs = cc in
    let back : take (length ys) zs ≡ ys = cc in
    ap (λ n. n ∷ take (length xs) zs) (second ∙ first) ∙ ap (λ (t : List ℕ). x ∷ t) (IsFront-trans xs ys zs front back)

-- a failed write before other bytes to be written
pub AppendsFront-more : (old new : Option (List ℕ)) (first second : List ℕ) → AppendsFront old new first → AppendsFront old new (first ++ second)
AppendsFront-more None new first second failed = tt
AppendsFront-more (Some xs) None first second failed = failed
AppendsFront-more (Some xs) (Some zs) first second failed =
    let Q : List ℕ → Type 0 = λ t. IsFront zs t in
    (failed.0, subst Q (append_assoc xs first second) (IsFront-more zs (xs ++ first) second failed.1))

pub GoesOn-start : (old : Option (List ℕ)) (bytes : List ℕ) → GoesOn old old bytes bytes
GoesOn-start None bytes = tt
GoesOn-start (Some xs) bytes = (refl, ap (λ (t : List ℕ). take (length xs) t) (sym (append-nil xs)) ∙ IsFront-append xs [])

-- a write that took some bytes
pub GoesOn-wrote : (old mid new : Option (List ℕ)) (bytes left : List ℕ) (count : ℕ) → count ≤ length left → GoesOn old mid bytes left → Appends mid new (take count left) → GoesOn old new bytes (take (length left - count) (drop count left))
GoesOn-wrote None mid new bytes left count within so_far wrote = tt
GoesOn-wrote (Some xs) None new bytes left count within so_far wrote = absurd so_far
GoesOn-wrote (Some xs) (Some ys) None bytes left count within so_far wrote = wrote
GoesOn-wrote (Some xs) (Some ys) (Some zs) bytes left count within so_far wrote = (
  ap (λ (t : List ℕ). t ++ take (length left - count) (drop count left)) wrote
      ∙ (append_assoc ys (take count left) (take (length left - count) (drop count left))
      ∙ (ap (λ (t : List ℕ). ys ++ (take count left ++ t)) (take_all (length left - count) (drop count left) (omega (arith, length-drop count left)))
      ∙ (ap (λ (t : List ℕ). ys ++ t) (take-append-drop count left) ∙ so_far.0))),
  let P : List ℕ → Type 0 = λ t. IsFront xs t in subst P (sym wrote) (IsFront-more xs ys (take count left) so_far.1),
)

-- nothing is left to write
pub GoesOn-end : (old new : Option (List ℕ)) (bytes left : List ℕ) → length left ≡ 0 → GoesOn old new bytes left → Appends old new bytes
GoesOn-end None new bytes left none so_far = tt
GoesOn-end (Some xs) None bytes left none so_far = absurd so_far
GoesOn-end (Some xs) (Some ys) bytes [] none so_far = sym (append-nil ys) ∙ so_far.0
GoesOn-end (Some xs) (Some ys) bytes (b ∷ left) none so_far = absurd (omega (arith, none))

-- a write failed
pub GoesOn-failed : (old mid new : Option (List ℕ)) (bytes left : List ℕ) → GoesOn old mid bytes left → Keeps mid new → AppendsFront old new bytes
GoesOn-failed None mid new bytes left so_far kept = tt
GoesOn-failed (Some xs) None new bytes left so_far kept = absurd so_far
GoesOn-failed (Some xs) (Some ys) None bytes left so_far kept = kept
GoesOn-failed (Some xs) (Some ys) (Some zs) bytes left so_far kept =
    let P : List ℕ → Type 0 = λ t. IsFront xs t × IsFront t (xs ++ bytes) in
    let Q : List ℕ → Type 0 = λ t. IsFront ys t in
    subst P (sym kept) (so_far.1, subst Q so_far.0 (IsFront-append ys left))
