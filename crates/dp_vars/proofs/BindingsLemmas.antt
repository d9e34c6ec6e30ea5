-- The bindings of a name at falling depths.
use Rattle.std.proofs.Common.{◌≡◌, ◌≢◌, ◌<◌, ◌≤◌, ◌⊎◌, inl, inr, ℕ, suc, Bool, true, false, cond, eqb, List, [], ◌∷◌, Some, None, refl, sym, ap, subst, ◌∙◌, true≢false, arith}
use Rattle.std.proofs.lemmas.Bool.Decides.{eqb_tells}
use Rattle.dp_vars.specs.steps.Bindings.{Falls, with_binding, bound_below, depth_of, find, with_innermost_value, without_binding_at}
use Rattle.dp_vars.specs.declared.binding_stack.Binding.{Binding}

-- different depths are not equal
pub other : (m n : ℕ) → m ≢ n → eqb m n ≡ false
other m n differ = by (eqb_tells m n)
  where
    by : ((eqb m n ≡ true) × (m ≡ n)) ⊎ ((eqb m n ≡ false) × (m ≢ n)) → eqb m n ≡ false
    by (inl p) = absurd (differ p.1)
    by (inr p) = p.0

-- removing a binding at a depth keeps those at other depths
pub find-unbound : (d e : ℕ) (bs : List Binding) → e ≢ d → find e (without_binding_at d bs) ≡ find e bs
find-unbound d e [] differ = refl
find-unbound d e (b ∷ bs) differ = by (eqb_tells b.depth d)
  where
    by : ((eqb b.depth d ≡ true) × (b.depth ≡ d)) ⊎ ((eqb b.depth d ≡ false) × (b.depth ≢ d))
        → find e (cond (eqb b.depth d) bs (b ∷ bs)) ≡ find e (b ∷ bs)
    by (inl p) =
        ap (λ c. find e (cond c bs (b ∷ bs))) p.0
        ∙ ap (λ c. cond c (Some b.value) (find e bs)) (sym (other b.depth e (λ is. differ (sym is ∙ p.1))))
    by (inr p) = ap (λ c. find e (cond c bs (b ∷ bs))) p.0

-- a value bound at a depth is found there
pub find-with_binding : (d e : ℕ) (value : List ℕ) (bs : List Binding) → find e (with_binding d value bs) ≡ cond (eqb d e) (Some value) (find e bs)
find-with_binding d e value bs = by (eqb_tells d e)
  where
    by : ((eqb d e ≡ true) × (d ≡ e)) ⊎ ((eqb d e ≡ false) × (d ≢ e))
        → cond (eqb d e) (Some value) (find e (without_binding_at d bs)) ≡ cond (eqb d e) (Some value) (find e bs)
    by (inl p) =
        ap (λ c. cond c (Some value) (find e (without_binding_at d bs))) p.0
        ∙ sym (ap (λ c. cond c (Some value) (find e bs)) p.0)
    by (inr p) = ap (cond (eqb d e) (Some value)) (find-unbound d e bs (λ is. p.1 (sym is)))

-- nothing is bound at the depth from which the depths fall, or above
pub find-none : (limit e : ℕ) (bs : List Binding) → Falls limit bs → limit ≤ e → find e bs ≡ None
find-none limit e [] falls above = refl
find-none limit e (b ∷ bs) falls above =
    ap (λ c. cond c (Some b.value) (find e bs)) (other b.depth e (λ is. omega (arith, falls.0)))
    ∙ find-none b.depth e bs falls.1 (omega (arith, falls.0))

-- the innermost binding is below the depth from which the depths fall
pub depth_of_below : (limit : ℕ) (bs : List Binding) → Falls limit bs → 0 < limit → depth_of bs < limit
depth_of_below limit [] falls some = some
depth_of_below limit (b ∷ bs) falls some = falls.0

conds_swap : {A : Type 0} (a b : Bool) (x y z : A) → (a ≡ true → b ≡ false) → cond a x (cond b y z) ≡ cond b y (cond a x z)
conds_swap true true x y z apart = ap (λ c. cond c y x) (sym (apart refl))
conds_swap true false x y z apart = refl
conds_swap false b x y z apart = refl

-- a depth equal to one is not equal to another below it
apart : (m n e : ℕ) → m < n → eqb n e ≡ true → eqb m e ≡ false
apart m n e below is = by (eqb_tells n e)
  where
    by : ((eqb n e ≡ true) × (n ≡ e)) ⊎ ((eqb n e ≡ false) × (n ≢ e)) → eqb m e ≡ false
    by (inl p) = other m e (λ same. omega (arith, p.1))
    by (inr p) = absurd (true≢false (sym is ∙ p.0))

-- a value bound below a depth
pub find-bound_below : (limit d e : ℕ) (value : List ℕ) (bs : List Binding) → Falls limit bs → 0 < d
    → find e (bound_below d value bs) ≡ cond (eqb (depth_of (without_binding_at d bs)) e) (Some value) (find e bs)
find-bound_below limit d e value [] falls some = refl
find-bound_below limit d e value (b ∷ bs) falls some = by (eqb_tells b.depth d)
  where
    by : ((eqb b.depth d ≡ true) × (b.depth ≡ d)) ⊎ ((eqb b.depth d ≡ false) × (b.depth ≢ d))
        → find e (cond (eqb b.depth d) (b ∷ with_innermost_value value bs) (with_innermost_value value (b ∷ bs)))
        ≡ cond (eqb (depth_of (cond (eqb b.depth d) bs (b ∷ bs))) e) (Some value) (find e (b ∷ bs))
    by (inl p) =
        let below : depth_of bs < b.depth = depth_of_below b.depth bs falls.1 (omega (arith, p.1)) in
        let differ : eqb b.depth e ≡ true → eqb (depth_of bs) e ≡ false = apart (depth_of bs) b.depth e below in
        ap (λ c. find e (cond c (b ∷ with_innermost_value value bs) (with_innermost_value value (b ∷ bs)))) p.0
        ∙ ap (cond (eqb b.depth e) (Some b.value)) (find-with_binding (depth_of bs) e value bs)
        ∙ conds_swap (eqb b.depth e) (eqb (depth_of bs) e) (Some b.value) (Some value) (find e bs) differ
        ∙ ap (λ c. cond (eqb (depth_of (cond c bs (b ∷ bs))) e) (Some value) (find e (b ∷ bs))) (sym p.0)
    by (inr p) =
        ap (λ c. find e (cond c (b ∷ with_innermost_value value bs) (with_innermost_value value (b ∷ bs)))) p.0
        ∙ find-with_binding b.depth e value (b ∷ bs)
        ∙ ap (λ c. cond (eqb (depth_of (cond c bs (b ∷ bs))) e) (Some value) (find e (b ∷ bs))) (sym p.0)

-- depths also fall from a depth further in
pub falls_under : (m n : ℕ) (bs : List Binding) → m ≤ n → Falls m bs → Falls n bs
falls_under m n [] below falls = tt
falls_under m n (b ∷ bs) below falls = ((omega (arith, falls.0)), falls.1)

pub falls-unbound : (d : ℕ) (bs : List Binding) → Falls (suc d) bs → Falls d (without_binding_at d bs)
falls-unbound d [] falls = tt
falls-unbound d (b ∷ bs) falls = by (eqb_tells b.depth d)
  where
    by : ((eqb b.depth d ≡ true) × (b.depth ≡ d)) ⊎ ((eqb b.depth d ≡ false) × (b.depth ≢ d)) → Falls d (cond (eqb b.depth d) bs (b ∷ bs))
    by (inl p) = subst (λ c. Falls d (cond c bs (b ∷ bs))) (sym p.0) (falls_under b.depth d bs (omega (arith, p.1)) falls.1)
    by (inr p) = subst (λ c. Falls d (cond c bs (b ∷ bs))) (sym p.0) ((omega (arith, p.1, falls.0)), falls.1)

pub falls-with_binding : (d : ℕ) (value : List ℕ) (bs : List Binding) → Falls (suc d) bs → Falls (suc d) (with_binding d value bs)
falls-with_binding d value bs falls = ((omega arith), falls-unbound d bs falls)

pub falls-rebound : (limit : ℕ) (value : List ℕ) (bs : List Binding) → 0 < limit → Falls limit bs → Falls limit (with_innermost_value value bs)
falls-rebound limit value [] some falls = (some, tt)
falls-rebound limit value (b ∷ bs) some falls = (falls.0, falls-unbound b.depth (b ∷ bs) ((omega arith), falls.1))

pub falls-bound_below : (limit d : ℕ) (value : List ℕ) (bs : List Binding) → 0 < limit → 0 < d → Falls limit bs → Falls limit (bound_below d value bs)
falls-bound_below limit d value [] some deep falls = (some, tt)
falls-bound_below limit d value (b ∷ bs) some deep falls = by (eqb_tells b.depth d)
  where
    by : ((eqb b.depth d ≡ true) × (b.depth ≡ d)) ⊎ ((eqb b.depth d ≡ false) × (b.depth ≢ d))
        → Falls limit (cond (eqb b.depth d) (b ∷ with_innermost_value value bs) (with_innermost_value value (b ∷ bs)))
    by (inl p) = subst (λ c. Falls limit (cond c (b ∷ with_innermost_value value bs) (with_innermost_value value (b ∷ bs)))) (sym p.0)
        (falls.0, falls-rebound b.depth value bs (omega (arith, p.1)) falls.1)
    by (inr p) = subst (λ c. Falls limit (cond c (b ∷ with_innermost_value value bs) (with_innermost_value value (b ∷ bs)))) (sym p.0)
        (falls-rebound limit value (b ∷ bs) some falls)
