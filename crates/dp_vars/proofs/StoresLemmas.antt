-- The first value of several maps.
use Rattle.std.proofs.Common.{◌≡◌, ◌<◌, ◌≤◌, ◌+◌, ◌-◌, ℕ, zero, suc, true, false, cond, eqb, List, [], ◌∷◌, ◌++◌, Option, Some, None, refl, sym, ap, ◌∙◌, is_some, length, map, reverse, eq-eqb, if◌then◌else◌, ◌≢◌, ◌⊎◌, inl, inr, arith}
use Rattle.std.proofs.lemmas.Bool.Decides.{eqb_tells}
use Rattle.std.proofs.lemmas.List.{map-append, reverse-append}
use Rattle.std.specs.Option.{option_map, option_or}
use Rattle.std.specs.FinMap.{get, insert}
use Rattle.dp_vars.specs.steps.Bindings.{Falls, depth_of, find, innermost_value, is_at}
use Rattle.dp_vars.specs.Stores.{StoreFrame, all_locals, changed_at, holder, local_in, set, set_in, set_local, value_in, with_local, with_local_name, with_name}
use Rattle.dp_vars.specs.steps.Tables.{Entries, frames_from, local_at, map_at, names_of, with_number, stack_of, store_of}
use Rattle.dp_vars.specs.Variables.{Named, first_value}
use Rattle.dp_vars.specs.declared.frame.HeldFrame.{HeldFrame}
use Rattle.dp_vars.specs.declared.binding_stack.Binding.{Binding}
use Rattle.dp_vars.proofs.BindingsLemmas.{depth_of_below, find-none, falls_under, other}
use Rattle.dp_vars.proofs.TablesLemmas.{get-map_at}

pub or_none : {T : Type 0} (o : Option T) → o ≡ option_or o None
or_none None = refl
or_none (Some x) = refl

-- the first value of two lists of maps
pub first_value-append : (ms ns : List Named) (name : List ℕ)
    → first_value (ms ++ ns) name ≡ option_or (first_value ms name) (first_value ns name)
first_value-append [] ns name = refl
first_value-append (m ∷ ms) ns name = by (get m name) (first_value-append ms ns name)
  where
    by : (o : Option (List ℕ)) → first_value (ms ++ ns) name ≡ option_or (first_value ms name) (first_value ns name)
        → option_or o (first_value (ms ++ ns) name) ≡ option_or (option_or o (first_value ms name)) (first_value ns name)
    by None rest = rest
    by (Some value) rest = refl

-- the place of a depth; that of the channel has none
abbrev pub place_of : ℕ → Option ℕ
place_of zero = None
place_of (suc place) = Some place

module _ {B : Type 0} where
  -- as many frames
  pub length-frames_from : (d : ℕ) (es : Entries) (hs : List (HeldFrame B)) → length (frames_from d es hs) ≡ length hs
  length-frames_from d es [] = refl
  length-frames_from d es (h ∷ hs) = ap suc (length-frames_from (suc d) es hs)

  -- the same maps make the same frames
  pub frames-same : (d : ℕ) (es fs : Entries) (hs : List (HeldFrame B))
      → ((e : ℕ) → d ≤ e → e < d + length hs → map_at e fs ≡ map_at e es) → frames_from d fs hs ≡ frames_from d es hs
  frames-same d es fs [] same = refl
  frames-same d es fs (h ∷ hs) same = λ i.
      record { back = h.back; locals = same d (omega arith) (omega arith) i }
      ∷ frames-same (suc d) es fs hs (λ e from below. same e (omega arith) (omega arith)) i

  -- replacing the map at the depth of a frame replaces it in the frame
  pub frames-set : (d place depth : ℕ) (es fs : Entries) (hs : List (HeldFrame B)) (name value : List ℕ)
      → ((e : ℕ) → map_at e fs ≡ cond (eqb depth e) (insert (map_at e es) name value) (map_at e es))
      → depth ≡ d + place → place < length hs
      → frames_from d fs hs ≡ changed_at (with_local name value) place (frames_from d es hs)
  frames-set d place depth es fs [] name value put is within = absurd (omega arith)
  frames-set d zero depth es fs (h ∷ hs) name value put is within = λ i.
      record { back = h.back; locals = (put d ∙ ap (λ b. cond b (insert (map_at d es) name value) (map_at d es)) (eq-eqb depth d (omega arith))) i }
      ∷ frames-same (suc d) es fs hs
      (λ e from below. put e ∙ ap (λ b. cond b (insert (map_at e es) name value) (map_at e es)) (other depth e (λ same. omega arith))) i
  frames-set d (suc place) depth es fs (h ∷ hs) name value put is within = λ i.
      record { back = h.back; locals = (put d ∙ ap (λ b. cond b (insert (map_at d es) name value) (map_at d es)) (other depth d (λ same. omega arith))) i }
      ∷ frames-set (suc d) place depth es fs hs name value put (omega arith) (omega arith) i

  -- the locals of the frame at a place
  pub local_at-frames : (d place : ℕ) (es : Entries) (hs : List (HeldFrame B)) (name : List ℕ) → place < length hs
      → local_at (frames_from d es hs) place name ≡ get (map_at (d + place) es) name
  local_at-frames d place es [] name within = absurd (omega arith)
  local_at-frames d zero es (h ∷ hs) name within = ap (λ e. get (map_at e es) name) (omega arith)
  local_at-frames d (suc place) es (h ∷ hs) name within =
      local_at-frames (suc d) place es hs name (omega arith) ∙ ap (λ e. get (map_at e es) name) (omega arith)

  -- a name that no map contains is not a local
  pub local_at-none : (d place : ℕ) (es : Entries) (hs : List (HeldFrame B)) (name : List ℕ) → ((e : ℕ) → get (map_at e es) name ≡ None)
      → local_at (frames_from d es hs) place name ≡ None
  local_at-none d place es [] name none = refl
  local_at-none d zero es (h ∷ hs) name none = none d
  local_at-none d (suc place) es (h ∷ hs) name none = local_at-none (suc d) place es hs name none

  -- the frames of one list and another
  pub frames-append : (d : ℕ) (es : Entries) (hs gs : List (HeldFrame B)) → frames_from d es (hs ++ gs) ≡ frames_from d es hs ++ frames_from (d + length hs) es gs
  frames-append d es [] gs = ap (λ e. frames_from e es gs) (omega arith)
  frames-append d es (h ∷ hs) gs =
      ap (λ fs. record { back = h.back; locals = map_at d es } ∷ fs) (frames-append (suc d) es hs gs ∙ ap (λ e. frames_from (suc d) es hs ++ frames_from e es gs) (omega arith))

  -- the locals of one more frame
  all_locals-cons : (frame : StoreFrame B) (frames : List (StoreFrame B)) → all_locals (frame ∷ frames) ≡ all_locals frames ++ frame.locals ∷ []
  all_locals-cons frame frames =
      ap (map (λ (f : StoreFrame B). f.locals)) (reverse-append (frame ∷ []) frames) ∙ map-append (λ (f : StoreFrame B). f.locals) (reverse frames) (frame ∷ [])

  module _ (es : Entries) (name : List ℕ) (bs : List Binding) where
    -- no frame further in than the bindings has the name
    pub holder-none : (d : ℕ) (hs : List (HeldFrame B)) → Falls d bs
        → ((e : ℕ) → e < d + length hs → find e bs ≡ find e (stack_of es name)) → holder name (frames_from d es hs) ≡ None
    holder-none d [] falls finds = refl
    holder-none d (h ∷ hs) falls finds =
        ap (λ o. option_or (option_map suc o) (cond (is_some (get (map_at d es) name)) (Some 0) None))
        (holder-none (suc d) hs (falls_under d (suc d) bs (omega arith) falls) (λ e below. finds e (omega arith)))
        ∙ ap (λ (o : Option (List ℕ)). cond (is_some o) (Some 0) None)
        (get-map_at d es name ∙ sym (finds d (omega arith)) ∙ find-none d d bs falls (omega arith))

    first-none : (d : ℕ) (hs : List (HeldFrame B)) → Falls d bs
        → ((e : ℕ) → e < d + length hs → find e bs ≡ find e (stack_of es name)) → first_value (all_locals (frames_from d es hs)) name ≡ None
    first-none d [] falls finds = refl
    first-none d (h ∷ hs) falls finds =
        ap (λ maps. first_value maps name) (all_locals-cons (record { back = h.back; locals = map_at d es }) (frames_from (suc d) es hs))
        ∙ first_value-append (all_locals (frames_from (suc d) es hs)) (map_at d es ∷ []) name
        ∙ (λ i. option_or (first-none (suc d) hs (falls_under d (suc d) bs (omega arith) falls) (λ e below. finds e (omega arith)) i)
        (option_or ((get-map_at d es name ∙ sym (finds d (omega arith)) ∙ find-none d d bs falls (omega arith)) i) None))

  module _ (es : Entries) (name : List ℕ) (b : Binding) (bs : List Binding) where
    -- the frame of the innermost binding has the name
    pub holder-found : (d place : ℕ) (hs : List (HeldFrame B)) → Falls (d + length hs) (b ∷ bs)
        → ((e : ℕ) → e < d + length hs → find e (b ∷ bs) ≡ find e (stack_of es name)) → b.depth ≡ d + place
        → holder name (frames_from d es hs) ≡ Some place
    holder-found d place [] falls finds is = absurd (omega (arith, falls.0))
    holder-found d zero (h ∷ hs) falls finds is =
        ap (λ o. option_or (option_map suc o) (cond (is_some (get (map_at d es) name)) (Some 0) None))
        (holder-none es name (b ∷ bs) (suc d) hs ((omega arith), falls.1) (λ e below. finds e (omega arith)))
        ∙ ap (λ (o : Option (List ℕ)). cond (is_some o) (Some 0) None)
        (get-map_at d es name ∙ sym (finds d (omega arith)) ∙ ap (λ c. cond c (Some b.value) (find d bs)) (eq-eqb b.depth d (omega arith)))
    holder-found d (suc place) (h ∷ hs) falls finds is =
        ap (λ o. option_or (option_map suc o) (cond (is_some (get (map_at d es) name)) (Some 0) None))
        (holder-found (suc d) place hs ((omega (arith, falls.0)), falls.1) (λ e below. finds e (omega arith)) (omega arith))

    -- its value is found first
    first-found : (d place : ℕ) (hs : List (HeldFrame B)) → Falls (d + length hs) (b ∷ bs)
        → ((e : ℕ) → e < d + length hs → find e (b ∷ bs) ≡ find e (stack_of es name)) → b.depth ≡ d + place
        → first_value (all_locals (frames_from d es hs)) name ≡ Some b.value
    first-found d place [] falls finds is = absurd (omega (arith, falls.0))
    first-found d zero (h ∷ hs) falls finds is =
        ap (λ maps. first_value maps name) (all_locals-cons (record { back = h.back; locals = map_at d es }) (frames_from (suc d) es hs))
        ∙ first_value-append (all_locals (frames_from (suc d) es hs)) (map_at d es ∷ []) name
        ∙ (λ i. option_or (first-none es name (b ∷ bs) (suc d) hs ((omega arith), falls.1) (λ e below. finds e (omega arith)) i)
        (option_or ((get-map_at d es name ∙ sym (finds d (omega arith)) ∙ ap (λ c. cond c (Some b.value) (find d bs)) (eq-eqb b.depth d (omega arith))) i) None))
    first-found d (suc place) (h ∷ hs) falls finds is =
        ap (λ maps. first_value maps name) (all_locals-cons (record { back = h.back; locals = map_at d es }) (frames_from (suc d) es hs))
        ∙ first_value-append (all_locals (frames_from (suc d) es hs)) (map_at d es ∷ []) name
        ∙ ap (λ o. option_or o (first_value (map_at d es ∷ []) name))
        (first-found (suc d) place hs ((omega (arith, falls.0)), falls.1) (λ e below. finds e (omega arith)) (omega arith))

  -- the innermost binding says which frame has the name
  pub holder-is : (es : Entries) (name : List ℕ) (hs : List (HeldFrame B)) (bs : List Binding) → Falls (suc (length hs)) bs
      → ((e : ℕ) → e < suc (length hs) → find e bs ≡ find e (stack_of es name)) → holder name (frames_from 1 es hs) ≡ place_of (depth_of bs)
  holder-is es name hs [] falls finds = holder-none es name [] 1 hs tt (λ e below. finds e (omega arith))
  holder-is es name hs (b ∷ bs) falls finds = by b.depth refl
    where
      by : (n : ℕ) → b.depth ≡ n → holder name (frames_from 1 es hs) ≡ place_of n
      by zero is = holder-none es name (b ∷ bs) 1 hs ((omega arith), falls.1) (λ e below. finds e (omega arith))
      by (suc place) is = holder-found es name b bs 1 place hs ((omega (arith, falls.0)), falls.1) (λ e below. finds e (omega arith)) (omega arith)

  -- and it has the value that is found
  pub value_in-is : (es : Entries) (name : List ℕ) (hs : List (HeldFrame B)) → Falls (suc (length hs)) (stack_of es name)
      → innermost_value (stack_of es name) ≡ value_in (store_of es hs) name
  value_in-is es name hs falls =
      by (stack_of es name) falls (λ e. refl)
      ∙ ap (λ o. option_or (first_value (all_locals (frames_from 1 es hs)) name) (option_or o None)) (sym (get-map_at 0 es name))
      ∙ sym (first_value-append (all_locals (frames_from 1 es hs)) (map_at 0 es ∷ []) name)
    where
      deeper : (b : Binding) (bs : List Binding) (n : ℕ) → b.depth ≡ n → Falls (suc (length hs)) (b ∷ bs)
          → ((e : ℕ) → find e (b ∷ bs) ≡ find e (stack_of es name))
          → Some b.value ≡ option_or (first_value (all_locals (frames_from 1 es hs)) name) (option_or (find 0 (stack_of es name)) None)
      deeper b bs zero is falls finds =
          sym (λ i. option_or (first-none es name (b ∷ bs) 1 hs ((omega arith), falls.1) (λ e below. finds e) i)
          (option_or ((sym (finds 0) ∙ ap (λ c. cond c (Some b.value) (find 0 bs)) (eq-eqb b.depth 0 is)) i) None))
      deeper b bs (suc place) is falls finds =
          ap (λ o. option_or o (option_or (find 0 (stack_of es name)) None))
          (sym (first-found es name b bs 1 place hs ((omega (arith, falls.0)), falls.1) (λ e below. finds e) (omega arith)))

      by : (bs : List Binding) → Falls (suc (length hs)) bs → ((e : ℕ) → find e bs ≡ find e (stack_of es name))
          → innermost_value bs ≡ option_or (first_value (all_locals (frames_from 1 es hs)) name) (option_or (find 0 (stack_of es name)) None)
      by [] falls finds =
          sym (λ i. option_or (first-none es name [] 1 hs tt (λ e below. finds e) i) (option_or (sym (finds 0) i) None))
      by (b ∷ bs) falls finds = deeper b bs b.depth refl falls finds

  -- binding a value at the depth of the innermost binding sets it
  pub set-is : (es fs : Entries) (hs : List (HeldFrame B)) (name value : List ℕ) (bs : List Binding) → Falls (suc (length hs)) bs
      → ((e : ℕ) → e < suc (length hs) → find e bs ≡ find e (stack_of es name))
      → ((e : ℕ) → map_at e fs ≡ cond (eqb (depth_of bs) e) (insert (map_at e es) name value) (map_at e es))
      → names_of fs ≡ with_name (names_of es) name → store_of fs hs ≡ set (store_of es hs) name value
  unfolding set
  set-is es fs hs name value bs falls finds put names =
      by (depth_of bs) refl
      ∙ ap (λ o. set_in o (store_of es hs) name value) (sym (holder-is es name hs bs falls finds))
    where
      at : (n : ℕ) → depth_of bs ≡ n → (e : ℕ) → map_at e fs ≡ cond (eqb n e) (insert (map_at e es) name value) (map_at e es)
      at n is e = put e ∙ ap (λ m. cond (eqb m e) (insert (map_at e es) name value) (map_at e es)) is

      by : (n : ℕ) → depth_of bs ≡ n → store_of fs hs ≡ set_in (place_of n) (store_of es hs) name value
      by zero is = λ i. record {
        variables = at 0 is 0 i;
        frames = frames-same 1 es fs hs (λ e from below. at 0 is e
            ∙ ap (λ b. cond b (insert (map_at e es) name value) (map_at e es)) (other 0 e (λ same. omega arith))) i;
        names = names i;
      }
      by (suc place) is = λ i. record {
        variables = (at (suc place) is 0
            ∙ ap (λ b. cond b (insert (map_at 0 es) name value) (map_at 0 es)) (other (suc place) 0 (λ same. omega arith))) i;
        frames = frames-set 1 place (suc place) es fs hs name value (at (suc place) is) (omega arith)
            (omega (arith, depth_of_below (suc (length hs)) bs falls (omega arith))) i;
        names = names i;
      }

  -- the local of the innermost frame
  pub local_in-is : (es : Entries) (name : List ℕ) (hs : List (HeldFrame B)) (bs : List Binding) → Falls (suc (length hs)) bs → 0 < length hs
      → find (length hs) bs ≡ find (length hs) (stack_of es name)
      → (if is_at (length hs) bs then innermost_value bs else None) ≡ local_in (store_of es hs) name
  local_in-is es name hs bs falls some finds =
      by bs falls ∙ finds ∙ sym (get-map_at (length hs) es name)
      ∙ ap (λ e. get (map_at e es) name) (omega arith)
      ∙ sym (local_at-frames 1 (length hs - 1) es hs name (omega arith))
      ∙ ap (λ n. local_at (frames_from 1 es hs) (n - 1) name) (sym (length-frames_from 1 es hs))
    where
      by : (bs : List Binding) → Falls (suc (length hs)) bs → (if is_at (length hs) bs then innermost_value bs else None) ≡ find (length hs) bs
      by [] falls = refl
      by (b ∷ bs) falls = one (eqb_tells b.depth (length hs))
        where
          one : ((eqb b.depth (length hs) ≡ true) × (b.depth ≡ length hs)) ⊎ ((eqb b.depth (length hs) ≡ false) × (b.depth ≢ length hs))
              → cond (eqb b.depth (length hs)) (Some b.value) None ≡ cond (eqb b.depth (length hs)) (Some b.value) (find (length hs) bs)
          one (inl p) = ap (λ c. cond c (Some b.value) None) p.0 ∙ sym (ap (λ c. cond c (Some b.value) (find (length hs) bs)) p.0)
          one (inr p) = ap (cond (eqb b.depth (length hs)) (Some b.value)) (sym (find-none b.depth (length hs) bs falls.1 (omega (arith, p.1, falls.0))))

  -- without a frame there is none
  pub local_in-none : (es : Entries) (name : List ℕ) (hs : List (HeldFrame B)) → length hs ≡ 0 → None ≡ local_in (store_of es hs) name
  local_in-none es name [] none = refl
  local_in-none es name (h ∷ hs) none = absurd (omega arith)

  -- adding numbers does not change the frames
  pub frames-with_number : (d n : ℕ) (es : Entries) (hs : List (HeldFrame B)) → frames_from d es (with_number n hs) ≡ frames_from d es hs
  frames-with_number d n es [] = refl
  frames-with_number d n es (h ∷ []) = refl
  frames-with_number d n es (h ∷ g ∷ hs) = ap (λ fs. record { back = h.back; locals = map_at d es } ∷ fs) (frames-with_number (suc d) n es (g ∷ hs))

  -- binding a value in the innermost frame sets a local
  pub set_local-is : (n : ℕ) (es fs : Entries) (hs : List (HeldFrame B)) (name value : List ℕ) → 0 < length hs
      → ((e : ℕ) → map_at e fs ≡ cond (eqb (length hs) e) (insert (map_at e es) name value) (map_at e es))
      → names_of fs ≡ with_name (names_of es) name → store_of fs (with_number n hs) ≡ set_local (store_of es hs) name value
  unfolding set_local
  set_local-is n es fs hs name value some put names = λ i. record {
    variables = (put 0 ∙ ap (λ b. cond b (insert (map_at 0 es) name value) (map_at 0 es)) (other (length hs) 0 (λ same. omega arith))) i;
    frames = (frames-with_number 1 n fs hs ∙ frames-set 1 (length hs - 1) (length hs) es fs hs name value put (omega arith) (omega arith)
        ∙ ap (λ m. changed_at (with_local name value) (m - 1) (frames_from 1 es hs)) (sym (length-frames_from 1 es hs))) i;
    names = (names ∙ by hs some) i;
  }
    where
      by : (hs : List (HeldFrame B)) → 0 < length hs → with_name (names_of es) name ≡ with_local_name (frames_from 1 es hs) (names_of es) name
      by [] some = absurd (omega arith)
      by (h ∷ hs) some = refl

  -- without a frame nothing is set
  pub set_local-none : (es : Entries) (hs : List (HeldFrame B)) (name value : List ℕ) → length hs ≡ 0 → store_of es hs ≡ set_local (store_of es hs) name value
  unfolding set_local
  set_local-none es [] name value none = refl
  set_local-none es (h ∷ hs) name value none = absurd (omega arith)
