-- The value of a key in a map with one entry changed.
use Rattle.std.proofs.Common.{◌≡◌, Bool, true, false, cond, ◌&&◌, List, [], ◌∷◌, Option, Some, refl, ap, ◌∙◌, sym}
use Rattle.std.specs.Map.{lookup}
use Rattle.std.specs.Cmp.{IsEquivalence}
use Rattle.indexmap.specs.IndexMap.{insert_entry}

and_left : (a b : Bool) → (a && b) ≡ true → a ≡ true
and_left true b e = refl
and_left false b e = absurd cc

and_right : (a b : Bool) → (a && b) ≡ true → b ≡ true
and_right true b e = e
and_right false b e = absurd cc

-- equality in two ways at once is an equivalence if each is
pub both_equiv : {X : Type 0} {E F : X → X → Bool} → IsEquivalence E → IsEquivalence F → IsEquivalence (λ x y. E x y && F x y)
both_equiv {X} {E} {F} first second = record {
  refl = λ x i. first.refl x i && second.refl x i;
  symm = λ x y i. first.symm x y i && second.symm x y i;
  congr = λ x y z e i. first.congr x y z (and_left (E x y) (F x y) e) i && second.congr x y z (and_right (E x y) (F x y) e) i;
}

cond_twice : {X : Type 0} (t : Bool) (x y z : X) → cond t x z ≡ cond t x (cond t y z)
cond_twice true x y z = refl
cond_twice false x y z = refl

cond_apart : {X : Type 0} (s t : Bool) (x y z : X) → (s ≡ true → t ≡ false) → cond t x (cond s y z) ≡ cond s y (cond t x z)
cond_apart true true x y z apart = let no = apart refl in absurd cc
cond_apart true false x y z apart = refl
cond_apart false t x y z apart = refl

-- the value of a key after another value was written
pub lookup-insert_entry : {K V : Type 0} (eq : K → K → Bool) → IsEquivalence eq → (es : List (K × V)) (k : K) (v : V) (q : K) → lookup (eq q) (insert_entry eq es k v) ≡ cond (eq q k) (Some v) (lookup (eq q) es)
lookup-insert_entry eq laws [] k v q = refl
lookup-insert_entry {K} {V} eq laws (e ∷ es) k v q = by (lookup-insert_entry eq laws es k v q) (eq k e.0) refl where
  by : lookup (eq q) (insert_entry eq es k v) ≡ cond (eq q k) (Some v) (lookup (eq q) es) → (t : Bool) → eq k e.0 ≡ t → lookup (eq q) (cond t ((e.0, v) ∷ es) (e ∷ insert_entry eq es k v)) ≡ cond (eq q k) (Some v) (cond (eq q e.0) (Some e.1) (lookup (eq q) es))
  by later true same =
      let as_key : eq q k ≡ eq q e.0 = laws.symm q k ∙ (laws.congr k e.0 q same ∙ laws.symm e.0 q) in
      cond_twice (eq q e.0) (Some v) (Some e.1) (lookup (eq q) es)
      ∙ ap (λ t. cond t (Some v) (cond (eq q e.0) (Some e.1) (lookup (eq q) es))) (sym as_key)
  by later false other =
      let apart : eq q k ≡ true → eq q e.0 ≡ false = λ s. laws.congr q k e.0 s ∙ other in
      ap (λ (o : Option V). cond (eq q e.0) (Some e.1) o) later
      ∙ cond_apart (eq q k) (eq q e.0) (Some e.1) (Some v) (lookup (eq q) es) apart
