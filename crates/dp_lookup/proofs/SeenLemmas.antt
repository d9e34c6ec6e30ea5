-- The contexts that were seen, and the number of remaining ones.
use Rattle.std.proofs.Common.{◌≡◌, ◌≢◌, ℕ, zero, suc, ◌+◌, ◌<◌, ◌≤◌, Bool, true, false, ◌&&◌, ◌||◌, eqb, List, [], ◌∷◌, ◌++◌, cond, inl, inr, arith, refl, sym, ap, ◌∙◌}
use Rattle.std.proofs.lemmas.Bool.{eqb-true, eq-eqb, ltb-true, not-true, cases_lt}
use Rattle.dp_plan.specs.Plan.{PlanOf}
use Rattle.dp_lookup.specs.SearchOrder.{context_count, has, is_open}
use Rattle.dp_lookup.specs.steps.Filling.{unseen_weight, one}

and_parts : (a b : Bool) → (a && b) ≡ true → (a ≡ true) × (b ≡ true)
and_parts true b e = (refl, e)
and_parts false b e = absurd cc

or-false : (b : Bool) → (b || false) ≡ b
or-false true = refl
or-false false = refl

or_assoc : (a b c : Bool) → (a || (b || c)) ≡ ((a || b) || c)
or_assoc true b c = refl
or_assoc false b c = refl

-- one more context is seen
has-push : (seen : List ℕ) (c k : ℕ) → has (seen ++ c ∷ []) k ≡ (has seen k || eqb c k)
has-push [] c k = or-false (eqb c k)
has-push (x ∷ seen) c k = ap (λ b. eqb x k || b) (has-push seen c k) ∙ or_assoc (eqb x k) (has seen k) (eqb c k)

or-true : (b : Bool) → (b || true) ≡ true
or-true true = refl
or-true false = refl

pub has-push_itself : (seen : List ℕ) (c : ℕ) → has (seen ++ c ∷ []) c ≡ true
has-push_itself seen c = has-push seen c c ∙ (ap (λ b. has seen c || b) (eq-eqb c c refl) ∙ or-true (has seen c))

other_eqb : (c k : ℕ) → c ≢ k → (b : Bool) → eqb c k ≡ b → b ≡ false
other_eqb c k other true e = absurd (other (eqb-true c k e))
other_eqb c k other false e = refl

pub has-push_other : (seen : List ℕ) (c k : ℕ) → c ≢ k → has (seen ++ c ∷ []) k ≡ has seen k
has-push_other seen c k other =
    has-push seen c k ∙ (ap (λ b. has seen k || b) (other_eqb c k other (eqb c k) refl) ∙ or-false (has seen k))

-- a context that is still to be visited
pub open_parts : (plan : PlanOf) (seen : List ℕ) (c : ℕ) → is_open plan seen c ≡ true → (c < context_count plan) × (has seen c ≡ false)
open_parts plan seen c e =
    let parts = and_parts _ _ e in
    (ltb-true c (context_count plan) parts.0, not-true (has seen c) parts.1)

-- a context beyond the bound does not count
pub unseen-push_above : (weight : ℕ → ℕ) (bound : ℕ) (seen : List ℕ) (c : ℕ) → bound ≤ c → unseen_weight weight bound (seen ++ c ∷ []) ≡ unseen_weight weight bound seen
unseen-push_above weight zero seen c above = refl
unseen-push_above weight (suc bound) seen c above =
    let other : c ≢ bound = omega arith in
    let here = ap (λ b. cond b 0 (weight bound)) (has-push_other seen c bound other) in
    let below = unseen-push_above weight bound seen c (omega arith) in
    λ i. below i + here i

push_below : (weight : ℕ → ℕ) (bound : ℕ) (seen : List ℕ) (c : ℕ) → c < bound → unseen_weight weight bound (seen ++ c ∷ []) + weight c ≡ unseen_weight weight bound seen → unseen_weight weight (suc bound) (seen ++ c ∷ []) + weight c ≡ unseen_weight weight (suc bound) seen
push_below weight bound seen c below rest =
    let other : c ≢ bound = omega arith in
    let here = ap (λ b. cond b 0 (weight bound)) (has-push_other seen c bound other) in
    omega (arith, here, rest)

push_at : (weight : ℕ → ℕ) (bound : ℕ) (seen : List ℕ) (c : ℕ) → c ≡ bound → has seen c ≡ false → unseen_weight weight (suc bound) (seen ++ c ∷ []) + weight c ≡ unseen_weight weight (suc bound) seen
push_at weight bound seen c same new =
    let rest = unseen-push_above weight bound seen c (omega arith) in
    let now : has (seen ++ c ∷ []) bound ≡ true = ap (has (seen ++ c ∷ [])) (sym same) ∙ has-push_itself seen c in
    let before : has seen bound ≡ false = ap (has seen) (sym same) ∙ new in
    let none = ap (λ b. cond b 0 (weight bound)) now in
    let here = ap (λ b. cond b 0 (weight bound)) before in
    omega (arith, rest, none, here, ap weight same)

-- one more seen is one less remaining
pub unseen-push : (weight : ℕ → ℕ) (bound : ℕ) (seen : List ℕ) (c : ℕ) → c < bound → has seen c ≡ false → unseen_weight weight bound (seen ++ c ∷ []) + weight c ≡ unseen_weight weight bound seen
unseen-push weight zero seen c within new = absurd (omega arith)
unseen-push weight (suc bound) seen c within new =
    let below = λ (lt : c < bound). unseen-push weight bound seen c lt new in
    elim (cases_lt c bound) [
      | inl lt ↦ push_below weight bound seen c lt (below lt)
      | inr above ↦ push_at weight bound seen c (omega arith) new
    ]

-- seeing more leaves no more than before
pub unseen-push_le : (weight : ℕ → ℕ) (bound : ℕ) (seen : List ℕ) (c : ℕ) → unseen_weight weight bound (seen ++ c ∷ []) ≤ unseen_weight weight bound seen
unseen-push_le weight zero seen c = omega arith
unseen-push_le weight (suc bound) seen c =
    let rest = unseen-push_le weight bound seen c in
    let here = weight-or (has seen bound) (eqb c bound) (weight bound) in
    let same = ap (λ b. cond b 0 (weight bound)) (has-push seen c bound) in
    omega (arith, rest, here, same)
  where
    weight-or : (a b : Bool) (w : ℕ) → cond (a || b) 0 w ≤ cond a 0 w
    weight-or true b w = omega arith
    weight-or false true w = omega arith
    weight-or false false w = omega arith

-- there are at most as many as the bound
pub unseen_all : (bound : ℕ) (seen : List ℕ) → unseen_weight one bound seen ≤ bound
unseen_all zero seen = omega arith
unseen_all (suc bound) seen =
    let rest = unseen_all bound seen in
    let here = at_most_one (has seen bound) in
    omega (arith, rest, here)
  where
    at_most_one : (b : Bool) → cond b 0 1 ≤ 1
    at_most_one true = omega arith
    at_most_one false = omega arith
