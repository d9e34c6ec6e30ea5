-- The store after values are bound.
use Rattle.std.proofs.Common.{◌≡◌, ◌<◌, ◌-◌, ℕ, zero, suc, List, [], ◌∷◌, ◌++◌, Some, None, refl, sym, ap, subst, ◌∙◌, nat_eq, length, take, fold, slice_get, arith}
use Rattle.std.specs.List.{position_or_len}
use Rattle.std.specs.Cmp.Lexicographic.{pointwise}
use Rattle.std.specs.Option.{option_map}
use Rattle.std.specs.FinMap.{empty, get-empty}
use Rattle.std.specs.Ordering.{nat_cmp}
use Rattle.std.specs.Cmp.Lexicographic.{slice_cmp}
use Rattle.std.proofs.lemmas.List.{length-append}
use Rattle.dp_vars.specs.steps.Bindings.{Falls, with_binding, bound_below, depth_of, find, with_innermost_value, without_binding_at}
use Rattle.dp_vars.specs.Stores.{innermost, popped_setting, set, set_local, with_frame, without_frame}
use Rattle.dp_vars.specs.steps.Tables.{Entries, IsBound, IsHeld, frames_from, map_at, names_of, with_number, put_value, stack_of, store_of, unbound_at, with_stack}
use Rattle.dp_vars.specs.declared.frame.HeldFrame.{HeldFrame}
use Rattle.dp_vars.proofs.BindingsLemmas.{falls-with_binding, falls-bound_below, falls-rebound, falls-unbound, falls_under, find-with_binding, find-bound_below, find-none, find-unbound}
use Rattle.dp_vars.proofs.BoundLemmas.{falls_of, held-with_binding, held-bound_below, held-rebound, held_of, length-with_number, with_number-with_binding, with_number-known, with_stack-with_binding}
use Rattle.dp_vars.proofs.StoresLemmas.{frames-append, frames-same, set-is, set_local-is}
use Rattle.dp_vars.proofs.TablesLemmas.{get-map_at, map_at-with_stack, names-with_stack, same_named}

module _ {B : Type 0} (es : Entries) (hs : List (HeldFrame B)) (name value : List ℕ) (is : IsBound es hs) where
  -- the value of the innermost binding is changed
  pub set_view : store_of (with_stack es name (with_innermost_value value (stack_of es name))) hs ≡ set (store_of es hs) name value
  set_view = set-is es (with_stack es name (with_innermost_value value (stack_of es name))) hs name value (stack_of es name) (falls_of es hs name is) (λ e below. refl)
      (map_at-with_stack es name (with_innermost_value value (stack_of es name)) (depth_of (stack_of es name)) (Some value)
      (λ e. find-with_binding (depth_of (stack_of es name)) e value (stack_of es name)))
      (names-with_stack es name (with_innermost_value value (stack_of es name)))

  pub set_bound : IsBound (with_stack es name (with_innermost_value value (stack_of es name))) hs
  set_bound = with_stack-with_binding es hs name (with_innermost_value value (stack_of es name)) is
      (falls-rebound (suc (length hs)) value (stack_of es name) (omega arith) (falls_of es hs name is))
      (held-rebound hs (position_or_len (pointwise nat_eq name) (names_of es)) value (stack_of es name) (held_of es hs name is))

  -- a value is bound in the innermost frame
  pub local_view : (n : ℕ) → 0 < length hs
      → store_of (with_stack es name (with_binding (length hs) value (stack_of es name))) (with_number n hs) ≡ set_local (store_of es hs) name value
  local_view n some = set_local-is n es (with_stack es name (with_binding (length hs) value (stack_of es name))) hs name value some
      (map_at-with_stack es name (with_binding (length hs) value (stack_of es name)) (length hs) (Some value)
      (λ e. find-with_binding (length hs) e value (stack_of es name)))
      (names-with_stack es name (with_binding (length hs) value (stack_of es name)))

  pub local_bound : (n : ℕ) → n ≡ position_or_len (pointwise nat_eq name) (names_of es) → 0 < length hs
      → IsBound (with_stack es name (with_binding (length hs) value (stack_of es name))) (with_number n hs)
  local_bound n at some = with_stack-with_binding es (with_number n hs) name (with_binding (length hs) value (stack_of es name)) (with_number-with_binding n es hs is)
      (subst (λ m. Falls (suc m) (with_binding (length hs) value (stack_of es name))) (sym (length-with_number n hs))
      (falls-with_binding (length hs) value (stack_of es name) (falls_of es hs name is)))
      (held-with_binding (with_number n hs) (position_or_len (pointwise nat_eq name) (names_of es)) (length hs) value (stack_of es name)
      (subst (λ m. IsHeld (with_number n hs) m (length hs)) at (with_number-known n hs some))
      (held_of es (with_number n hs) name (with_number-with_binding n es hs is)))

  -- a value is bound below the innermost frame
  pub below_bound : 0 < length hs → IsBound (with_stack es name (bound_below (length hs) value (stack_of es name))) hs
  below_bound some = with_stack-with_binding es hs name (bound_below (length hs) value (stack_of es name)) is
      (falls-bound_below (suc (length hs)) (length hs) value (stack_of es name) (omega arith) some (falls_of es hs name is))
      (held-bound_below hs (position_or_len (pointwise nat_eq name) (names_of es)) (length hs) value (stack_of es name) (held_of es hs name is))

slice_get-push : {X : Type 0} (xs : List X) (x : X) → slice_get (xs ++ x ∷ []) (length xs) ≡ Some x
slice_get-push [] x = refl
slice_get-push (y ∷ ys) x = slice_get-push ys x

pub take-push : {X : Type 0} (xs : List X) (x : X) → take (length xs) (xs ++ x ∷ []) ≡ xs
take-push [] x = refl
take-push (y ∷ ys) x = ap (λ rest. y ∷ rest) (take-push ys x)

pub length-push : {X : Type 0} (xs : List X) (x : X) → length (xs ++ x ∷ []) - 1 ≡ length xs
length-push xs x = omega (arith, length-append xs (x ∷ []))

map_at-unbound_at : (d e : ℕ) (es : Entries) (n : ℕ) → e < d → map_at e (unbound_at d es n) ≡ map_at e es
map_at-unbound_at d e [] n below = refl
map_at-unbound_at d e (x ∷ es) zero below = ap (put_value (map_at e es) x.0) (find-unbound d e x.1 (λ same. omega arith))
map_at-unbound_at d e (x ∷ es) (suc n) below = ap (λ m. put_value m x.0 (find e x.1)) (map_at-unbound_at d e es n below)

-- removing bindings at a depth keeps the maps below it
map_at-unbound_all : (d e : ℕ) (ns : List ℕ) (es : Entries) → e < d → map_at e (fold (unbound_at d) es ns) ≡ map_at e es
map_at-unbound_all d e [] es below = refl
map_at-unbound_all d e (n ∷ ns) es below = map_at-unbound_all d e ns (unbound_at d es n) below ∙ map_at-unbound_at d e es n below

names-unbound_at : (d : ℕ) (es : Entries) (n : ℕ) → names_of (unbound_at d es n) ≡ names_of es
names-unbound_at d [] n = refl
names-unbound_at d (e ∷ es) zero = refl
names-unbound_at d (e ∷ es) (suc n) = ap (λ ns. e.0 ∷ ns) (names-unbound_at d es n)

names-unbound_all : (d : ℕ) (ns : List ℕ) (es : Entries) → names_of (fold (unbound_at d) es ns) ≡ names_of es
names-unbound_all d [] es = refl
names-unbound_all d (n ∷ ns) es = names-unbound_all d ns (unbound_at d es n) ∙ names-unbound_at d es n

module _ {B : Type 0} where
  frames-pushed : (es : Entries) (outer : List (HeldFrame B)) (h : HeldFrame B)
      → frames_from 1 es (outer ++ h ∷ []) ≡ frames_from 1 es outer ++ record { back = h.back; locals = map_at (suc (length outer)) es } ∷ []
  frames-pushed es outer h = frames-append 1 es outer (h ∷ []) ∙ ap (λ e. frames_from 1 es outer ++ frames_from e es (h ∷ [])) (omega arith)

  -- the frames without the innermost
  frames-front : (es : Entries) (outer : List (HeldFrame B)) (h : HeldFrame B)
      → take (length (frames_from 1 es (outer ++ h ∷ [])) - 1) (frames_from 1 es (outer ++ h ∷ [])) ≡ frames_from 1 es outer
  frames-front es outer h =
      ap (λ fs. take (length fs - 1) fs) (frames-pushed es outer h)
      ∙ ap (λ n. take n (frames_from 1 es outer ++ record { back = h.back; locals = map_at (suc (length outer)) es } ∷ []))
      (length-push (frames_from 1 es outer) _)
      ∙ take-push (frames_from 1 es outer) _

  -- the innermost frame
  pub innermost-pushed : (es : Entries) (outer : List (HeldFrame B)) (h : HeldFrame B)
      → innermost (frames_from 1 es (outer ++ h ∷ [])) ≡ Some (record { back = h.back; locals = map_at (suc (length outer)) es })
  innermost-pushed es outer h =
      ap innermost (frames-pushed es outer h)
      ∙ ap (slice_get (frames_from 1 es outer ++ record { back = h.back; locals = map_at (suc (length outer)) es } ∷ [])) (length-push (frames_from 1 es outer) _)
      ∙ slice_get-push (frames_from 1 es outer) _

  pub innermost-empty : (es : Entries) (hs : List (HeldFrame B)) → length hs ≡ 0 → innermost (frames_from 1 es hs) ≡ None
  innermost-empty es [] none = refl
  innermost-empty es (h ∷ hs) none = absurd (omega arith)

  -- a frame is dropped
  pub popped_view : (es : Entries) (outer : List (HeldFrame B)) (h : HeldFrame B)
      → store_of (fold (unbound_at (suc (length outer))) es h.numbers) outer ≡ without_frame (store_of es (outer ++ h ∷ []))
  popped_view es outer h = λ i. record {
    variables = map_at-unbound_all (suc (length outer)) 0 h.numbers es (omega arith) i;
    frames = (frames-same 1 es (fold (unbound_at (suc (length outer))) es h.numbers) outer
        (λ e from below. map_at-unbound_all (suc (length outer)) e h.numbers es (omega arith))
        ∙ sym (frames-front es outer h)) i;
    names = names-unbound_all (suc (length outer)) h.numbers es i;
  }

  pub popped_empty : (es : Entries) (hs : List (HeldFrame B)) → length hs ≡ 0 → store_of es hs ≡ without_frame (store_of es hs)
  popped_empty es [] none = refl
  popped_empty es (h ∷ hs) none = absurd (omega arith)

  -- a name is set below the innermost frame, which is dropped then
  pub below_view : (es : Entries) (outer : List (HeldFrame B)) (h : HeldFrame B) (name value : List ℕ) → IsBound es (outer ++ h ∷ [])
      → without_frame (store_of (with_stack es name (bound_below (suc (length outer)) value (stack_of es name))) (outer ++ h ∷ []))
      ≡ set (without_frame (store_of es (outer ++ h ∷ []))) name value
  below_view es outer h name value is =
      front (with_stack es name (bound_below (suc (length outer)) value (stack_of es name)))
      ∙ set-is es (with_stack es name (bound_below (suc (length outer)) value (stack_of es name))) outer name value
      (without_binding_at (suc (length outer)) (stack_of es name))
      (falls-unbound (suc (length outer)) (stack_of es name) falls)
      (λ e below. find-unbound (suc (length outer)) e (stack_of es name) (λ same. omega arith))
      (map_at-with_stack es name (bound_below (suc (length outer)) value (stack_of es name)) (depth_of (without_binding_at (suc (length outer)) (stack_of es name))) (Some value)
      (λ e. find-bound_below (suc (suc (length outer))) (suc (length outer)) e value (stack_of es name) falls (omega arith)))
      (names-with_stack es name (bound_below (suc (length outer)) value (stack_of es name)))
      ∙ ap (λ store. set store name value) (sym (front es))
    where
      front : (fs : Entries) → without_frame (store_of fs (outer ++ h ∷ [])) ≡ store_of fs outer
      front fs = λ i. record { variables = map_at 0 fs; frames = frames-front fs outer h i; names = names_of fs }

      falls : Falls (suc (suc (length outer))) (stack_of es name)
      falls = falls_under (suc (length (outer ++ h ∷ []))) (suc (suc (length outer))) (stack_of es name)
          (omega (arith, length-append outer (h ∷ []))) (falls_of es (outer ++ h ∷ []) name is)

  -- a frame without locals is pushed
  pub pushed_view : (es : Entries) (hs : List (HeldFrame B)) (h : HeldFrame B) → IsBound es hs → store_of es (hs ++ h ∷ []) ≡ with_frame (store_of es hs) h.back []
  pushed_view es hs h is = λ i. record {
    variables = map_at 0 es;
    frames = (frames-pushed es hs h
        ∙ ap (λ m. frames_from 1 es hs ++ record { back = h.back; locals = m } ∷ []) empty_above) i;
    names = names_of es;
  }
    where
      empty_above : map_at (suc (length hs)) es ≡ empty
      empty_above = same_named _ _ (λ q. get-map_at (suc (length hs)) es q
          ∙ find-none (suc (length hs)) (suc (length hs)) (stack_of es q) (falls_of es hs q is) (omega arith)
          ∙ sym (get-empty (slice_cmp nat_cmp) q))

  -- a nonempty list of frames has a last one
  cut_last : (hs : List (HeldFrame B)) → 0 < length hs → (outer : List (HeldFrame B)) × ((h : HeldFrame B) × (hs ≡ outer ++ h ∷ []))
  cut_last [] some = absurd (omega arith)
  cut_last (h ∷ []) some = ([], (h, refl))
  cut_last (h ∷ g ∷ hs) some = by (cut_last (g ∷ hs) (omega arith))
    where
      by : (outer : List (HeldFrame B)) × ((l : HeldFrame B) × (g ∷ hs ≡ outer ++ l ∷ [])) → (outer : List (HeldFrame B)) × ((l : HeldFrame B) × (h ∷ g ∷ hs ≡ outer ++ l ∷ []))
      by (outer, (l, cut)) = (h ∷ outer, (l, ap (λ more. h ∷ more) cut))

  -- the result of `pop_frame_setting`
  pub setting_view : (es : Entries) (hs : List (HeldFrame B)) (name value : List ℕ) → IsBound es hs → 0 < length hs
      → popped_setting (store_of es hs) name value (innermost (frames_from 1 es hs))
      ≡ (
        without_frame (store_of (with_stack es name (bound_below (length hs) value (stack_of es name))) hs),
        option_map (λ frame. frame.back) (innermost (frames_from 1 (with_stack es name (bound_below (length hs) value (stack_of es name))) hs)),
      )
  setting_view es hs name value is some = by (cut_last hs some)
    where
      P : List (HeldFrame B) → Type 0
      P gs = popped_setting (store_of es gs) name value (innermost (frames_from 1 es gs))
          ≡ (
            without_frame (store_of (with_stack es name (bound_below (length gs) value (stack_of es name))) gs),
            option_map (λ frame. frame.back) (innermost (frames_from 1 (with_stack es name (bound_below (length gs) value (stack_of es name))) gs)),
          )

      below : ℕ → Entries
      below d = with_stack es name (bound_below d value (stack_of es name))

      one_more : (outer : List (HeldFrame B)) (h : HeldFrame B) → suc (length outer) ≡ length (outer ++ h ∷ [])
      one_more outer h = omega (arith, length-append outer (h ∷ []))

      at : (outer : List (HeldFrame B)) (h : HeldFrame B) → IsBound es (outer ++ h ∷ []) → P (outer ++ h ∷ [])
      at outer h is =
          ap (popped_setting (store_of es (outer ++ h ∷ [])) name value) (innermost-pushed es outer h)
          ∙ ap (λ store. (store, Some h.back)) (sym (below_view es outer h name value is))
          ∙ ap (λ o. (without_frame (store_of (below (suc (length outer))) (outer ++ h ∷ [])), option_map (λ frame. frame.back) o))
          (sym (innermost-pushed (below (suc (length outer))) outer h))
          ∙ ap (λ d. (without_frame (store_of (below d) (outer ++ h ∷ [])), option_map (λ frame. frame.back) (innermost (frames_from 1 (below d) (outer ++ h ∷ [])))))
          (one_more outer h)

      by : (outer : List (HeldFrame B)) × ((h : HeldFrame B) × (hs ≡ outer ++ h ∷ [])) → P hs
      by (outer, (h, cut)) = subst P (sym cut) (at outer h (subst (IsBound es) cut is))
