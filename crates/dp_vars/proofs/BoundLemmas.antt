-- The bindings of a store.
use Rattle.std.proofs.Common.{◌≡◌, ◌≢◌, ◌<◌, ◌⊎◌, inl, inr, ◌+◌, ℕ, zero, suc, Bool, true, false, cond, eqb, List, [], ◌∷◌, ◌++◌, refl, sym, ap, subst, ◌∙◌, nat_eq, not, length, take, fold, eq-eqb, get_or, set as set_item, arith}
use Rattle.std.specs.List.{position_or_len}
use Rattle.std.specs.Cmp.Lexicographic.{pointwise}
use Rattle.std.proofs.lemmas.Bool.Decides.{eqb_tells}
use Rattle.std.proofs.lemmas.List.{length-append}
use Rattle.dp_vars.specs.steps.Bindings.{Falls, with_binding, bound_below, with_innermost_value, without_binding_at}
use Rattle.dp_vars.specs.steps.Tables.{AreHeld, Entries, IsAmong, IsBound, IsHeld, names_of, with_number, numbers_at, stack_at, stack_of, unbound_at, with_stack}
use Rattle.dp_vars.specs.declared.frame.HeldFrame.{HeldFrame}
use Rattle.dp_vars.specs.declared.binding_stack.Binding.{Binding}
use Rattle.dp_vars.proofs.BindingsLemmas.{falls_under, falls-unbound, other}

one_more : (n : ℕ) → 1 + n ≡ suc n
one_more n = omega arith

-- the bindings of a name are those at its number
pub stack_at-number : (es : Entries) (name : List ℕ) → stack_at es (position_or_len (pointwise nat_eq name) (names_of es)) ≡ stack_of es name
stack_at-number [] name = refl
stack_at-number (e ∷ es) name = by (pointwise nat_eq name e.0) (position_or_len (pointwise nat_eq name) (names_of es)) (stack_at-number es name)
  where
    by : (b : Bool) (n : ℕ) → stack_at es n ≡ stack_of es name → stack_at (e ∷ es) (cond (not b) (1 + n) 0) ≡ cond b e.1 (stack_of es name)
    by true n rest = refl
    by false n rest = ap (stack_at (e ∷ es)) (one_more n) ∙ rest

-- what holds of the bindings at each number still holds after those of a name are replaced
pub with_stack-keeps : (P : ℕ → List Binding → Type 0) (es : Entries) (name : List ℕ) (bs : List Binding) → ((i : ℕ) → P i (stack_at es i))
    → P (position_or_len (pointwise nat_eq name) (names_of es)) bs → (i : ℕ) → P i (stack_at (with_stack es name bs) i)
with_stack-keeps P [] name bs all here zero = here
with_stack-keeps P [] name bs all here (suc i) = all (suc i)
with_stack-keeps P (e ∷ es) name bs all here i =
    by (pointwise nat_eq name e.0) (position_or_len (pointwise nat_eq name) (names_of es)) here
    (with_stack-keeps (λ j. P (suc j)) es name bs (λ j. all (suc j))) i
  where
    by : (b : Bool) (n : ℕ) → P (cond (not b) (1 + n) 0) bs → (P (suc n) bs → (j : ℕ) → P (suc j) (stack_at (with_stack es name bs) j))
        → (i : ℕ) → P i (stack_at (cond b ((e.0, bs) ∷ es) (e ∷ with_stack es name bs)) i)
    by true n here rest zero = here
    by true n here rest (suc i) = all (suc i)
    by false n here rest zero = all zero
    by false n here rest (suc i) = rest (subst (λ m. P m bs) (one_more n) here) i

eqb_step : (m n : ℕ) → eqb m n ≡ eqb (suc m) (suc n)
eqb_step m n = by (eqb_tells m n)
  where
    by : ((eqb m n ≡ true) × (m ≡ n)) ⊎ ((eqb m n ≡ false) × (m ≢ n)) → eqb m n ≡ eqb (suc m) (suc n)
    by (inl p) = p.0 ∙ sym (eq-eqb (suc m) (suc n) (ap suc p.1))
    by (inr p) = p.0 ∙ sym (other (suc m) (suc n) (λ same. p.1 (omega arith)))

-- removing a binding at a number
pub stack_at-unbound_at : (d : ℕ) (es : Entries) (j i : ℕ) → stack_at (unbound_at d es j) i ≡ cond (eqb j i) (without_binding_at d (stack_at es i)) (stack_at es i)
stack_at-unbound_at d [] j i = by (eqb j i)
  where
    by : (b : Bool) → ◌≡◌ {A = List Binding} [] (cond b [] [])
    by true = refl
    by false = refl
stack_at-unbound_at d (e ∷ es) zero zero = refl
stack_at-unbound_at d (e ∷ es) zero (suc i) =
    ap (λ b. cond b (without_binding_at d (stack_at es i)) (stack_at es i)) (sym (other 0 (suc i) (λ same. omega arith)))
stack_at-unbound_at d (e ∷ es) (suc j) zero = ap (λ b. cond b (without_binding_at d e.1) e.1) (sym (other (suc j) 0 (λ same. omega arith)))
stack_at-unbound_at d (e ∷ es) (suc j) (suc i) =
    stack_at-unbound_at d es j i ∙ ap (λ b. cond b (without_binding_at d (stack_at es i)) (stack_at es i)) (eqb_step j i)

-- removing the bindings at all numbers that have one at the depth
pub falls_all : (d i : ℕ) (ns : List ℕ) (es : Entries) → Falls (suc d) (stack_at es i) → IsAmong i ns ⊎ Falls d (stack_at es i)
    → Falls d (stack_at (fold (unbound_at d) es ns) i)
falls_all d i [] es falls (inl none) = absurd none
falls_all d i [] es falls (inr done) = done
falls_all d i (n ∷ ns) es falls met =
    falls_all d i ns (unbound_at d es n)
    (subst (Falls (suc d)) (sym (stack_at-unbound_at d es n i)) (stays (eqb n i)))
    (still (eqb_tells n i) met)
  where
    stays : (b : Bool) → Falls (suc d) (cond b (without_binding_at d (stack_at es i)) (stack_at es i))
    stays true = falls_under d (suc d) (without_binding_at d (stack_at es i)) (omega arith) (falls-unbound d (stack_at es i) falls)
    stays false = falls

    done : (b : Bool) → b ≡ true ⊎ Falls d (stack_at es i) → Falls d (cond b (without_binding_at d (stack_at es i)) (stack_at es i))
    done true is = falls-unbound d (stack_at es i) falls
    done false (inl is) = (cc)
    done false (inr is) = is

    at : eqb n i ≡ true ⊎ Falls d (stack_at es i) → Falls d (stack_at (unbound_at d es n) i)
    at is = subst (Falls d) (sym (stack_at-unbound_at d es n i)) (done (eqb n i) is)

    still : ((eqb n i ≡ true) × (n ≡ i)) ⊎ ((eqb n i ≡ false) × (n ≢ i)) → IsAmong i (n ∷ ns) ⊎ Falls d (stack_at es i)
        → IsAmong i ns ⊎ Falls d (stack_at (unbound_at d es n) i)
    still (inl p) met = inr (at (inl p.0))
    still (inr p) (inl (inl here)) = absurd (p.1 here)
    still (inr p) (inl (inr there)) = inl there
    still (inr p) (inr done) = inr (at (inr done))

module _ {B : Type 0} where
  -- numbers in frames stay there
  pub held_in : (hs gs : List (HeldFrame B)) (i : ℕ) (bs : List Binding) (limit : ℕ) → Falls limit bs
      → ((place : ℕ) → suc place < limit → IsAmong i (numbers_at hs place) → IsAmong i (numbers_at gs place)) → AreHeld hs i bs → AreHeld gs i bs
  held_in hs gs i [] limit falls known held = tt
  held_in hs gs i (b ∷ bs) limit falls known held =
      (one b.depth falls.0 held.0, held_in hs gs i bs b.depth falls.1 (λ place below. known place (omega (arith, falls.0))) held.1)
    where
      one : (n : ℕ) → n < limit → IsHeld hs i n → IsHeld gs i n
      one zero below h = tt
      one (suc place) below h = known place below h

  module _ (hs : List (HeldFrame B)) (i : ℕ) where
    pub held-unbound : (d : ℕ) (bs : List Binding) → AreHeld hs i bs → AreHeld hs i (without_binding_at d bs)
    held-unbound d [] held = tt
    held-unbound d (b ∷ bs) held = by (eqb b.depth d)
      where
        by : (c : Bool) → AreHeld hs i (cond c bs (b ∷ bs))
        by true = held.1
        by false = held

    pub held-with_binding : (d : ℕ) (value : List ℕ) (bs : List Binding) → IsHeld hs i d → AreHeld hs i bs → AreHeld hs i (with_binding d value bs)
    held-with_binding d value bs known held = (known, held-unbound d bs held)

    pub held-rebound : (value : List ℕ) (bs : List Binding) → AreHeld hs i bs → AreHeld hs i (with_innermost_value value bs)
    held-rebound value [] held = (tt, tt)
    held-rebound value (b ∷ bs) held = (held.0, held-unbound b.depth (b ∷ bs) held)

    pub held-bound_below : (d : ℕ) (value : List ℕ) (bs : List Binding) → AreHeld hs i bs → AreHeld hs i (bound_below d value bs)
    held-bound_below d value [] held = (tt, tt)
    held-bound_below d value (b ∷ bs) held = by (eqb b.depth d)
      where
        by : (c : Bool) → AreHeld hs i (cond c (b ∷ with_innermost_value value bs) (with_innermost_value value (b ∷ bs)))
        by true = (held.0, held-rebound value bs held.1)
        by false = held-rebound value (b ∷ bs) held

  -- a store without names
  pub none_bound : (hs : List (HeldFrame B)) → IsBound [] hs
  none_bound hs = record { falls = λ number. tt; held = λ number. tt }

  -- the depths of a name fall
  pub falls_of : (es : Entries) (hs : List (HeldFrame B)) (name : List ℕ) → IsBound es hs → Falls (suc (length hs)) (stack_of es name)
  falls_of es hs name is = subst (Falls (suc (length hs))) (stack_at-number es name) (is.falls (position_or_len (pointwise nat_eq name) (names_of es)))

  -- and frames have its number
  pub held_of : (es : Entries) (hs : List (HeldFrame B)) (name : List ℕ) → IsBound es hs
      → AreHeld hs (position_or_len (pointwise nat_eq name) (names_of es)) (stack_of es name)
  held_of es hs name is =
      subst (AreHeld hs (position_or_len (pointwise nat_eq name) (names_of es))) (stack_at-number es name) (is.held (position_or_len (pointwise nat_eq name) (names_of es)))

  -- replacing the bindings of a name
  pub with_stack-with_binding : (es : Entries) (hs : List (HeldFrame B)) (name : List ℕ) (bs : List Binding) → IsBound es hs → Falls (suc (length hs)) bs
      → AreHeld hs (position_or_len (pointwise nat_eq name) (names_of es)) bs → IsBound (with_stack es name bs) hs
  with_stack-with_binding es hs name bs is falls held = record {
    falls = with_stack-keeps (λ i. Falls (suc (length hs))) es name bs is.falls falls;
    held = with_stack-keeps (λ i. AreHeld hs i) es name bs is.held held;
  }

  -- keeping only the first names
  pub take-with_binding : (n : ℕ) (es : Entries) (hs : List (HeldFrame B)) → IsBound es hs → IsBound (take n es) hs
  take-with_binding n es hs is = record {
    falls = λ i. first (λ j. Falls (suc (length hs))) n es i (is.falls i) tt;
    held = λ i. first (λ j. AreHeld hs j) n es i (is.held i) tt;
  }
    where
      first : (P : ℕ → List Binding → Type 0) (n : ℕ) (es : Entries) (i : ℕ) → P i (stack_at es i) → P i [] → P i (stack_at (take n es) i)
      first P zero es i here none = none
      first P (suc n) [] i here none = none
      first P (suc n) (e ∷ es) zero here none = here
      first P (suc n) (e ∷ es) (suc i) here none = first (λ j. P (suc j)) n es i here none

  -- the frames with one more number
  pub length-with_number : (n : ℕ) (hs : List (HeldFrame B)) → length (with_number n hs) ≡ length hs
  length-with_number n [] = refl
  length-with_number n (h ∷ []) = refl
  length-with_number n (h ∷ g ∷ hs) = ap suc (length-with_number n (g ∷ hs))

  known-with_number : (n i : ℕ) (hs : List (HeldFrame B)) (place : ℕ) → IsAmong i (numbers_at hs place) → IsAmong i (numbers_at (with_number n hs) place)
  known-with_number n i [] place known = known
  known-with_number n i (h ∷ []) zero known = among h.numbers known
    where
      among : (ns : List ℕ) → IsAmong i ns → IsAmong i (ns ++ n ∷ [])
      among [] none = absurd none
      among (m ∷ ns) (inl here) = inl here
      among (m ∷ ns) (inr there) = inr (among ns there)
  known-with_number n i (h ∷ []) (suc place) known = known
  known-with_number n i (h ∷ g ∷ hs) zero known = known
  known-with_number n i (h ∷ g ∷ hs) (suc place) known = known-with_number n i (g ∷ hs) place known

  -- the innermost frame has it
  pub with_number-known : (n : ℕ) (hs : List (HeldFrame B)) → 0 < length hs → IsHeld (with_number n hs) n (length hs)
  with_number-known n [] some = tt
  with_number-known n (h ∷ []) some = last h.numbers
    where
      last : (ns : List ℕ) → IsAmong n (ns ++ n ∷ [])
      last [] = inl refl
      last (m ∷ ns) = inr (last ns)
  with_number-known n (h ∷ g ∷ hs) some = with_number-known n (g ∷ hs) (omega arith)

  pub with_number-with_binding : (n : ℕ) (es : Entries) (hs : List (HeldFrame B)) → IsBound es hs → IsBound es (with_number n hs)
  with_number-with_binding n es hs is = record {
    falls = λ i. subst (λ m. Falls (suc m) (stack_at es i)) (sym (length-with_number n hs)) (is.falls i);
    held = λ i. held_in hs (with_number n hs) i (stack_at es i) (suc (length hs)) (is.falls i) (λ place below. known-with_number n i hs place) (is.held i);
  }

  -- one more frame
  pub pushed-with_binding : (es : Entries) (hs : List (HeldFrame B)) (h : HeldFrame B) → IsBound es hs → IsBound es (hs ++ h ∷ [])
  pushed-with_binding es hs h is = record {
    falls = λ i. falls_under (suc (length hs)) (suc (length (hs ++ h ∷ []))) (stack_at es i) (omega (arith, length-append hs (h ∷ []))) (is.falls i);
    held = λ i. held_in hs (hs ++ h ∷ []) i (stack_at es i) (suc (length hs)) (is.falls i) (λ place below. known i hs place) (is.held i);
  }
    where
      known : (i : ℕ) (hs : List (HeldFrame B)) (place : ℕ) → IsAmong i (numbers_at hs place) → IsAmong i (numbers_at (hs ++ h ∷ []) place)
      known i [] place is = absurd is
      known i (g ∷ gs) zero is = is
      known i (g ∷ gs) (suc place) is = known i gs place is

  -- removing the bindings at all numbers
  held-unbound_all : (hs : List (HeldFrame B)) (i d : ℕ) (ns : List ℕ) (es : Entries) → AreHeld hs i (stack_at es i) → AreHeld hs i (stack_at (fold (unbound_at d) es ns) i)
  held-unbound_all hs i d [] es held = held
  held-unbound_all hs i d (n ∷ ns) es held = held-unbound_all hs i d ns (unbound_at d es n)
      (subst (AreHeld hs i) (sym (stack_at-unbound_at d es n i)) (by (eqb n i)))
    where
      by : (b : Bool) → AreHeld hs i (cond b (without_binding_at d (stack_at es i)) (stack_at es i))
      by true = held-unbound hs i d (stack_at es i) held
      by false = held

  -- without the innermost frame, if what is bound there is removed at its numbers
  pub popped-with_binding : (es : Entries) (outer : List (HeldFrame B)) (h : HeldFrame B) → IsBound es (outer ++ h ∷ [])
      → IsBound (fold (unbound_at (suc (length outer))) es h.numbers) outer
  popped-with_binding es outer h is = record {
    falls = λ i. falls_all (suc (length outer)) i h.numbers es
        (falls_under (suc (length (outer ++ h ∷ []))) (suc (suc (length outer))) (stack_at es i) (omega (arith, length-append outer (h ∷ []))) (is.falls i))
        (met i (stack_at es i) (is.falls i) (is.held i));
    held = λ i. held_in (outer ++ h ∷ []) outer i (stack_at (fold (unbound_at (suc (length outer))) es h.numbers) i) (suc (length outer))
        (falls_all (suc (length outer)) i h.numbers es
        (falls_under (suc (length (outer ++ h ∷ []))) (suc (suc (length outer))) (stack_at es i) (omega (arith, length-append outer (h ∷ []))) (is.falls i))
        (met i (stack_at es i) (is.falls i) (is.held i)))
        (λ place below. known i outer place (omega arith))
        (held-unbound_all (outer ++ h ∷ []) i (suc (length outer)) h.numbers es (is.held i));
  }
    where
      known : (i : ℕ) (hs : List (HeldFrame B)) (place : ℕ) → place < length hs → IsAmong i (numbers_at (hs ++ h ∷ []) place) → IsAmong i (numbers_at hs place)
      known i [] place within is = absurd (omega arith)
      known i (g ∷ gs) zero within is = is
      known i (g ∷ gs) (suc place) within is = known i gs place (omega arith) is

      last : (hs : List (HeldFrame B)) → numbers_at (hs ++ h ∷ []) (length hs) ≡ h.numbers
      last [] = refl
      last (g ∷ gs) = last gs

      met : (i : ℕ) (bs : List Binding) → Falls (suc (length (outer ++ h ∷ []))) bs → AreHeld (outer ++ h ∷ []) i bs
          → IsAmong i h.numbers ⊎ Falls (suc (length outer)) bs
      met i [] falls held = inr tt
      met i (b ∷ bs) falls held = by (eqb_tells b.depth (suc (length outer)))
        where
          by : ((eqb b.depth (suc (length outer)) ≡ true) × (b.depth ≡ suc (length outer))) ⊎ ((eqb b.depth (suc (length outer)) ≡ false) × (b.depth ≢ suc (length outer)))
              → IsAmong i h.numbers ⊎ Falls (suc (length outer)) (b ∷ bs)
          by (inl p) = inl (subst (IsAmong i) (last outer) (subst (IsHeld (outer ++ h ∷ []) i) p.1 held.0))
          by (inr p) = inr ((omega (arith, p.1, falls.0, length-append outer (h ∷ []))), falls.1)

  -- writing a number after those of the last frame adds it to the frame
  pub with_number-set : (n m : ℕ) (hs : List (HeldFrame B)) (h : HeldFrame B) → suc m ≡ length hs → h ≡ get_or hs m h
      → set_item hs m (record { back = h.back; numbers = h.numbers ++ n ∷ [] }) ≡ with_number n hs
  with_number-set n m [] h many is = absurd (omega arith)
  with_number-set n zero (x ∷ []) h many is = ap (λ (k : HeldFrame B). record { back = k.back; numbers = k.numbers ++ n ∷ [] } ∷ []) is
  with_number-set n (suc m) (x ∷ []) h many is = absurd (omega arith)
  with_number-set n zero (x ∷ y ∷ hs) h many is = absurd (omega arith)
  with_number-set n (suc m) (x ∷ y ∷ hs) h many is = ap (λ more. x ∷ more) (with_number-set n m (y ∷ hs) h (omega arith) is)
