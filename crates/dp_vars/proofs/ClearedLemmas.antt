-- Names whose bindings are removed.
use Rattle.std.proofs.Common.{◌≡◌, ℕ, zero, suc, Bool, true, false, cond, List, [], ◌∷◌, Some, None, refl, sym, ap, ◌∙◌, nat_eq, length, map}
use Rattle.std.specs.Cmp.Lexicographic.{pointwise, bytes_decides}
use Rattle.std.specs.FinMap.{remove}
use Rattle.dp_vars.specs.steps.Bindings.{Falls, find}
use Rattle.dp_vars.specs.Stores.{slot, unset, without_local}
use Rattle.dp_vars.specs.steps.Tables.{AreHeld, Entries, IsBound, without_bindings, frames_from, map_at, names_of, stack_at, stack_of, store_of, with_stack}
use Rattle.dp_vars.specs.declared.binding_stack.Binding.{Binding}
use Rattle.dp_vars.specs.declared.frame.HeldFrame.{HeldFrame}
use Rattle.dp_vars.proofs.NamesLemmas.{new_of}
use Rattle.dp_vars.proofs.TablesLemmas.{at_number, get-map_at, get-put_value, same_named}
use Rattle.dp_vars.proofs.VariablesLemmas.{apart, cond_shadows, conds_swap}

nothing_at : {X : Type 0} (b : Bool) → ◌≡◌ {A = List X} [] (cond b [] [])
nothing_at true = refl
nothing_at false = refl

-- the name has no bindings, and each other name has the same as before
stack_of-cleared : (q : List ℕ) (es : Entries) (name : List ℕ)
    → stack_of (without_bindings es name) q ≡ cond (pointwise nat_eq q name) [] (stack_of es q)
stack_of-cleared q [] name = nothing_at (pointwise nat_eq q name)
stack_of-cleared q (e ∷ es) name = by (pointwise nat_eq name e.0) refl (stack_of-cleared q es name)
  where
    by : (b : Bool) → pointwise nat_eq name e.0 ≡ b
        → stack_of (without_bindings es name) q ≡ cond (pointwise nat_eq q name) [] (stack_of es q)
        → stack_of (cond b ((e.0, []) ∷ es) (e ∷ without_bindings es name)) q
        ≡ cond (pointwise nat_eq q name) [] (cond (pointwise nat_eq q e.0) e.1 (stack_of es q))
    by true same rest =
        ap (λ n. cond (pointwise nat_eq q n) [] (stack_of es q)) (sym ((bytes_decides name e.0).0 same))
        ∙ cond_shadows (pointwise nat_eq q name) [] e.1 (stack_of es q)
        ∙ ap (λ n. cond (pointwise nat_eq q name) [] (cond (pointwise nat_eq q n) e.1 (stack_of es q))) ((bytes_decides name e.0).0 same)
    by false other rest =
        ap (cond (pointwise nat_eq q e.0) e.1) rest
        ∙ conds_swap (pointwise nat_eq q name) (pointwise nat_eq q e.0) [] e.1 (stack_of es q) (apart q name e.0 other)

-- the names are as before
names-cleared : (es : Entries) (name : List ℕ) → names_of (without_bindings es name) ≡ names_of es
names-cleared [] name = refl
names-cleared (e ∷ es) name = by (pointwise nat_eq name e.0) (names-cleared es name)
  where
    by : (b : Bool) → names_of (without_bindings es name) ≡ names_of es
        → names_of (cond b ((e.0, []) ∷ es) (e ∷ without_bindings es name)) ≡ e.0 ∷ names_of es
    by true rest = refl
    by false rest = ap (λ ns. e.0 ∷ ns) rest

-- the name has no value at any depth
map_at-cleared : (d : ℕ) (es : Entries) (name : List ℕ) → map_at d (without_bindings es name) ≡ remove (map_at d es) name
map_at-cleared d es name = same_named _ _ (λ q.
    get-map_at d (without_bindings es name) q ∙ ap (find d) (stack_of-cleared q es name)
    ∙ by (pointwise nat_eq q name) (stack_of es q)
    ∙ ap (cond (pointwise nat_eq q name) None) (sym (get-map_at d es q))
    ∙ sym (get-put_value (map_at d es) name None q))
  where
    by : (b : Bool) (bs : List Binding) → find d (cond b [] bs) ≡ cond b None (find d bs)
    by true bs = refl
    by false bs = refl

-- what holds of no bindings and of those at each number still holds
cleared-keeps : (P : ℕ → List Binding → Type 0) → ((i : ℕ) → P i []) → (es : Entries) (name : List ℕ) → ((i : ℕ) → P i (stack_at es i))
    → (i : ℕ) → P i (stack_at (without_bindings es name) i)
cleared-keeps P none [] name all i = all i
cleared-keeps P none (e ∷ es) name all i =
    by (pointwise nat_eq name e.0) (cleared-keeps (λ j. P (suc j)) (λ j. none (suc j)) es name (λ j. all (suc j))) i
  where
    by : (b : Bool) → ((j : ℕ) → P (suc j) (stack_at (without_bindings es name) j))
        → (i : ℕ) → P i (stack_at (cond b ((e.0, []) ∷ es) (e ∷ without_bindings es name)) i)
    by true rest zero = none zero
    by true rest (suc i) = all (suc i)
    by false rest zero = all zero
    by false rest (suc i) = rest i

-- removing the bindings of a name in the entries
pub cleared-is : (es : Entries) (name : List ℕ) (number : ℕ) → slot (names_of es) name ≡ Some number → with_stack es name [] ≡ without_bindings es name
cleared-is es name number is =
    at_number name (λ es number. with_stack es name [] ≡ without_bindings es name)
    (λ x es tied. ap (λ b. cond b ((x.0, []) ∷ es) (x ∷ with_stack es name [])) tied
    ∙ sym (ap (λ b. cond b ((x.0, []) ∷ es) (x ∷ without_bindings es name)) tied))
    (λ x es number other rest. ap (λ b. cond b ((x.0, []) ∷ es) (x ∷ with_stack es name [])) other
    ∙ ap (λ more. x ∷ more) rest
    ∙ sym (ap (λ b. cond b ((x.0, []) ∷ es) (x ∷ without_bindings es name)) other))
    es number is

-- a name that is not in the entries has no bindings to remove
pub cleared-unknown : (es : Entries) (name : List ℕ) → slot (names_of es) name ≡ None → es ≡ without_bindings es name
cleared-unknown [] name is = refl
cleared-unknown (x ∷ es) name is =
    let new = new_of x.0 (names_of es) name is in
    ap (λ more. x ∷ more) (cleared-unknown es name new.1) ∙ sym (ap (λ b. cond b ((x.0, []) ∷ es) (x ∷ without_bindings es name)) new.0)

module _ {B : Type 0} where
  frames-cleared : (d : ℕ) (es : Entries) (hs : List (HeldFrame B)) (name : List ℕ)
      → frames_from d (without_bindings es name) hs ≡ map (without_local name) (frames_from d es hs)
  frames-cleared d es [] name = refl
  frames-cleared d es (h ∷ hs) name = λ i.
      record { back = h.back; locals = map_at-cleared d es name i } ∷ frames-cleared (suc d) es hs name i

  -- the store in which the name has no value
  pub cleared-view : (es : Entries) (hs : List (HeldFrame B)) (name : List ℕ) → store_of (without_bindings es name) hs ≡ unset (store_of es hs) name
  unfolding unset
  cleared-view es hs name = λ i. record {
    variables = map_at-cleared 0 es name i;
    frames = frames-cleared 1 es hs name i;
    names = names-cleared es name i;
  }

  -- bindings still go outwards, and frames have the numbers of the names that are bound in them
  pub cleared-bound : (es : Entries) (hs : List (HeldFrame B)) (name : List ℕ) → IsBound es hs → IsBound (without_bindings es name) hs
  cleared-bound es hs name is = record {
    falls = cleared-keeps (λ i bs. Falls (suc (length hs)) bs) (λ i. tt) es name is.falls;
    held = cleared-keeps (λ i bs. AreHeld hs i bs) (λ i. tt) es name is.held;
  }
