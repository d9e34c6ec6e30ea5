-- The order of entries in the file.
use Rattle.std.proofs.Common.{◌≡◌, ◌<◌, ◌==◌, nat_lt, ◌⊎◌, inl, inr, Bool, true, false, true≢false, ◌&&◌, ◌||◌, arith, refl, sym, ap, ◌∙◌}
use Rattle.std.proofs.lemmas.Bool.{eq-eqb, eqb-true, ltb-false, ltb-true, lt-ltb}
use Rattle.dp_plan.specs.declared.entry.EntryId.{EntryId}
use Rattle.dp_audit.specs.Loops.{is_before}

or_parts : (a b : Bool) → (a || b) ≡ false → (a ≡ false) × (b ≡ false)
or_parts false b none = (refl, none)
or_parts true b none = absurd cc

-- of two entries neither of which comes before the other, one is the other
pub is_before_one : (a b : EntryId) → is_before a b ≡ false → is_before b a ≡ false → a ≡ b
is_before_one a b here there =
    let left = or_parts (nat_lt a.context b.context) (a.context == b.context && nat_lt a.entry b.entry) here in
    let right = or_parts (nat_lt b.context a.context) (b.context == a.context && nat_lt b.entry a.entry) there in
    let contexts : a.context ≡ b.context = omega (arith, ltb-false a.context b.context left.0, ltb-false b.context a.context right.0) in
    let ahead : nat_lt a.entry b.entry ≡ false = sym (ap (λ (same : Bool). same && nat_lt a.entry b.entry) (eq-eqb a.context b.context contexts)) ∙ left.1 in
    let behind : nat_lt b.entry a.entry ≡ false = sym (ap (λ (same : Bool). same && nat_lt b.entry a.entry) (eq-eqb b.context a.context (sym contexts))) ∙ right.1 in
    let entries : a.entry ≡ b.entry = omega (arith, ltb-false a.entry b.entry ahead, ltb-false b.entry a.entry behind) in
    λ i. record { context = contexts i; entry = entries i }

-- the same for numbers
abbrev Before : EntryId → EntryId → Type 0
Before a b = (a.context < b.context) ⊎ ((a.context ≡ b.context) × (a.entry < b.entry))

before_numbers : (a b : EntryId) → is_before a b ≡ true → Before a b
before_numbers a b here = by (nat_lt a.context b.context) refl (a.context == b.context) refl here
  where
    by : (less : Bool) → nat_lt a.context b.context ≡ less → (same : Bool) → (a.context == b.context) ≡ same
        → (less || same && nat_lt a.entry b.entry) ≡ true → Before a b
    by true less same is here = inl (ltb-true a.context b.context less)
    by false less true is here = inr (eqb-true a.context b.context is, ltb-true a.entry b.entry here)
    by false less false is here = absurd (true≢false (sym here))

numbers_before : (a b : EntryId) → Before a b → is_before a b ≡ true
numbers_before a b (inl less) = ap (λ (less : Bool). less || a.context == b.context && nat_lt a.entry b.entry) (lt-ltb a.context b.context less)
numbers_before a b (inr both) =
    (λ i. nat_lt a.context b.context || eq-eqb a.context b.context both.0 i && lt-ltb a.entry b.entry both.1 i)
    ∙ by (nat_lt a.context b.context)
  where
    by : (less : Bool) → (less || true) ≡ true
    by true = refl
    by false = refl

before_trans : (a b c : EntryId) → Before a b → Before b c → Before a c
before_trans a b c (inl x) (inl y) = inl (omega (arith, x, y))
before_trans a b c (inl x) (inr y) = inl (omega (arith, x, y.0))
before_trans a b c (inr x) (inl y) = inl (omega (arith, x.0, y))
before_trans a b c (inr x) (inr y) = inr (x.0 ∙ y.0, omega (arith, x.1, y.1))

not_itself : (a : EntryId) → Before a a → ⊥
not_itself a (inl x) = omega (arith, x)
not_itself a (inr x) = omega (arith, x.1)

-- no entry comes before itself
pub is_before_itself : (a : EntryId) → is_before a a ≡ false
is_before_itself a = by (is_before a a) refl
  where
    by : (b : Bool) → is_before a a ≡ b → b ≡ false
    by true is = absurd (not_itself a (before_numbers a a is))
    by false is = refl

-- what does not come before an entry does not come before an earlier one
pub is_before_less : (y least less : EntryId) → is_before y least ≡ false → is_before less least ≡ true → is_before y less ≡ false
is_before_less y least less not_before here = by (is_before y less) refl
  where
    by : (b : Bool) → is_before y less ≡ b → b ≡ false
    by true is =
        let both = before_trans y less least (before_numbers y less is) (before_numbers less least here) in
        absurd (true≢false (sym (numbers_before y least both) ∙ not_before))
    by false is = refl
