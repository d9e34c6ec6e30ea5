-- Forgetting names.
use Rattle.std.proofs.Common.{◌≡◌, ◌<◌, ◌+◌, ℕ, zero, suc, Bool, true, false, cond, List, [], ◌∷◌, Option, Some, None, refl, sym, ap, ◌∙◌, nat_eq, not, length, take, ◌⊎◌, inl, inr, arith}
use Rattle.std.specs.List.{position_or_len}
use Rattle.std.specs.Cmp.Lexicographic.{pointwise}
use Rattle.std.specs.FinMap.{get}
use Rattle.std.proofs.lemmas.List.{take-map}
use Rattle.dp_vars.specs.steps.Bindings.{find}
use Rattle.dp_vars.specs.Stores.{StoreOf, slot}
use Rattle.dp_vars.specs.steps.Tables.{Entries, HasNamed, local_at, map_at, names_of, stack_of, store_of}
use Rattle.dp_vars.specs.declared.frame.HeldFrame.{HeldFrame}
use Rattle.dp_vars.proofs.NamesLemmas.{position_some}
use Rattle.dp_vars.proofs.StoresLemmas.{frames-same, local_at-frames, local_at-none}
use Rattle.dp_vars.proofs.TablesLemmas.{get-map_at, same_named, stack_of-unknown}

module _ (q : List ℕ) where
  -- a name among the first ones has the same bindings among them
  stack_of-take : (n : ℕ) (es : Entries) → position_or_len (pointwise nat_eq q) (names_of (take n es)) < length (names_of (take n es))
      → stack_of (take n es) q ≡ stack_of es q
  stack_of-take zero es within = absurd (omega arith)
  stack_of-take (suc n) [] within = refl
  stack_of-take (suc n) (e ∷ es) within = by (pointwise nat_eq q e.0) (position_or_len (pointwise nat_eq q) (names_of (take n es))) within (stack_of-take n es)
    where
      by : (b : Bool) (m : ℕ) → cond (not b) (1 + m) 0 < suc (length (names_of (take n es)))
          → (m < length (names_of (take n es)) → stack_of (take n es) q ≡ stack_of es q)
          → cond b e.1 (stack_of (take n es) q) ≡ cond b e.1 (stack_of es q)
      by true m within rest = refl
      by false m within rest = rest (omega arith)

-- a name has a number or not
known_or_not : (names : List (List ℕ)) (name : List ℕ)
    → (position_or_len (pointwise nat_eq name) names < length names) ⊎ (slot names name ≡ None)
known_or_not names name = by (slot names name) refl
  where
    by : (o : Option ℕ) → slot names name ≡ o → (position_or_len (pointwise nat_eq name) names < length names) ⊎ (slot names name ≡ None)
    by None is = inr is
    by (Some i) is = inl (position_some (pointwise nat_eq name) names i is).0

module _ {B : Type 0} where
  -- the names of a store are those of its maps
  pub has_named : (es : Entries) (hs : List (HeldFrame B)) → HasNamed (store_of es hs)
  has_named es hs = record {
    variables = λ name none. get-map_at 0 es name ∙ ap (find 0) (stack_of-unknown es name none);
    locals = λ place name none. local_at-none 1 place es hs name (λ e. get-map_at e es name ∙ ap (find e) (stack_of-unknown es name none));
  }

  -- names that no map contains are forgotten
  pub forgotten : (es : Entries) (n : ℕ) (hs : List (HeldFrame B)) (before : StoreOf B) → HasNamed before → store_of es hs ≡ record before { names = names_of es }
      → take n (names_of es) ≡ before.names → store_of (take n es) hs ≡ before
  forgotten es n hs before named is names = λ i. record {
    variables = (maps 0 (omega arith) ∙ ap (λ store. store.variables) is) i;
    frames = (frames-same 1 es (take n es) hs (λ e from below. maps e (omega arith)) ∙ ap (λ store. store.frames) is) i;
    names = first i;
  }
    where
      first : names_of (take n es) ≡ before.names
      first = sym (take-map (λ e. e.0) n es) ∙ names

      none : (q : List ℕ) → slot before.names q ≡ None → (e : ℕ) → e < suc (length hs) → get (map_at e es) q ≡ None
      none q unknown zero below = ap (λ store. get store.variables q) is ∙ named.variables q unknown
      none q unknown (suc place) below =
          ap (λ e. get (map_at e es) q) (omega arith) ∙ sym (local_at-frames 1 place es hs q (omega arith))
          ∙ ap (λ store. local_at store.frames place q) is ∙ named.locals place q unknown

      one : (e : ℕ) → e < suc (length hs) → (q : List ℕ)
          → (position_or_len (pointwise nat_eq q) (names_of (take n es)) < length (names_of (take n es))) ⊎ (slot (names_of (take n es)) q ≡ None)
          → find e (stack_of (take n es) q) ≡ get (map_at e es) q
      one e below q (inl within) = ap (find e) (stack_of-take q n es within) ∙ sym (get-map_at e es q)
      one e below q (inr unknown) = ap (find e) (stack_of-unknown (take n es) q unknown) ∙ sym (none q (ap (λ ns. slot ns q) (sym first) ∙ unknown) e below)

      maps : (e : ℕ) → e < suc (length hs) → map_at e (take n es) ≡ map_at e es
      maps e below = same_named _ _ (λ q. get-map_at e (take n es) q ∙ one e below q (known_or_not (names_of (take n es)) q))
