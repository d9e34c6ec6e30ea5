-- Locals that are set one after another in a new frame.
use Rattle.std.proofs.Common.{◌≡◌, ◌-◌, ◌<◌, ℕ, zero, suc, Bool, true, false, cond, List, [], ◌∷◌, ◌++◌, refl, sym, ap, ◌∙◌, append-nil, append_assoc, nat_eq, length, take, arith, Result, Ok, Err, is_err}
use Rattle.std.proofs.lemmas.List.Sums.{fold-append}
use Rattle.std.proofs.Math.Seq.{take-append_seam}
use Rattle.std.specs.Cmp.Lexicographic.{pointwise}
use Rattle.std.specs.Result.{OnErr, OnOk}
use Rattle.std.specs.FinMap.{empty}
use Rattle.dp_vars.specs.Stores.{StoreFrame, StoreOf, changed_at, set_local, with_frame, with_local, with_local_name, with_name, with_names, without_frame}
use Rattle.dp_vars.specs.Variables.{map_of, map_with}
use Rattle.dp_vars.specs.declared.local.Local.{Local}
use Rattle.dp_vars.proofs.SettingLemmas.{length-push, take-push}

with_name-front : (ns : List (List ℕ)) (name : List ℕ) → (rest : List (List ℕ)) × (with_name ns name ≡ ns ++ rest)
with_name-front [] name = (name ∷ [], refl)
with_name-front (n ∷ ns) name = by (pointwise nat_eq name n) (with_name-front ns name)
  where
    by : (b : Bool) → (rest : List (List ℕ)) × (with_name ns name ≡ ns ++ rest)
        → (rest : List (List ℕ)) × (cond b (n ∷ ns) (n ∷ with_name ns name) ≡ n ∷ (ns ++ rest))
    by true more = ([], ap (λ ms. n ∷ ms) (sym (append-nil ns)))
    by false (rest, is) = (rest, ap (λ ms. n ∷ ms) is)

-- the names stay at the start of the new list
with_names-front : (vs : List Local) (ns : List (List ℕ)) → (rest : List (List ℕ)) × (with_names ns vs ≡ ns ++ rest)
with_names-front [] ns = ([], sym (append-nil ns))
with_names-front (v ∷ vs) ns = by (with_name-front ns v.name) (with_names-front vs (with_name ns v.name))
  where
    by : (rest : List (List ℕ)) × (with_name ns v.name ≡ ns ++ rest) → (rest : List (List ℕ)) × (with_names (with_name ns v.name) vs ≡ with_name ns v.name ++ rest)
        → (rest : List (List ℕ)) × (with_names (with_name ns v.name) vs ≡ ns ++ rest)
    by (one, is) (more, are) = (one ++ more, are ∙ ap (λ ms. ms ++ more) is ∙ append_assoc ns one more)

pub take-with_names : (vs : List Local) (ns : List (List ℕ)) → take (length ns) (with_names ns vs) ≡ ns
take-with_names vs ns = by (with_names-front vs ns)
  where
    by : (rest : List (List ℕ)) × (with_names ns vs ≡ ns ++ rest) → take (length ns) (with_names ns vs) ≡ ns
    by (rest, is) = ap (take (length ns)) is ∙ take-append_seam ns rest

module _ {B : Type 0} where
  changed_last : (change : StoreFrame B → StoreFrame B) (fs : List (StoreFrame B)) (f : StoreFrame B) → changed_at change (length fs) (fs ++ f ∷ []) ≡ fs ++ change f ∷ []
  changed_last change [] f = refl
  changed_last change (g ∷ fs) f = ap (λ more. g ∷ more) (changed_last change fs f)

  -- one more local
  pub set_local-pushed : (store : StoreOf B) (back : B) (vs : List Local) (v : Local)
      → set_local (with_frame store back vs) v.name v.value ≡ with_frame store back (vs ++ v ∷ [])
  unfolding set_local
  set_local-pushed store back vs v = λ i. record {
    variables = store.variables;
    frames = (ap (λ n. changed_at (with_local v.name v.value) n (store.frames ++ record { back = back; locals = map_of vs } ∷ [])) (length-push store.frames (record { back = back; locals = map_of vs }))
        ∙ changed_last (with_local v.name v.value) store.frames (record { back = back; locals = map_of vs })
        ∙ ap (λ m. store.frames ++ record { back = back; locals = m } ∷ []) (sym (fold-append map_with empty vs (v ∷ [])))) i;
    names = (named store.frames (with_names store.names vs) ∙ sym (fold-append (λ known local. with_name known local.name) store.names vs (v ∷ []))) i;
  }
    where
      named : (fs : List (StoreFrame B)) (names : List (List ℕ)) → with_local_name (fs ++ record { back = back; locals = map_of vs } ∷ []) names v.name ≡ with_name names v.name
      named [] names = refl
      named (f ∷ fs) names = refl

  -- one more local, if the store has those before it
  pub set_local-more : (before after store : StoreOf B) (back : B) (vs : List Local) (v : Local) (name : List ℕ) → after ≡ set_local before name v.value
      → name ≡ v.name → before ≡ with_frame store back vs → after ≡ with_frame store back (vs ++ v ∷ [])
  set_local-more before after store back vs v name set named is =
      set ∙ (λ i. set_local (is i) (named i) v.value) ∙ set_local-pushed store back vs v

  -- a local does not change the number of frames
  length-set_local : (store : StoreOf B) (name value : List ℕ) → length (set_local store name value).frames ≡ length store.frames
  unfolding set_local
  length-set_local store name value = by (length store.frames - 1) store.frames
    where
      by : (place : ℕ) (fs : List (StoreFrame B)) → length (changed_at (with_local name value) place fs) ≡ length fs
      by place [] = refl
      by zero (f ∷ fs) = refl
      by (suc place) (f ∷ fs) = ap suc (by place fs)

  -- and so there is still a frame
  pub set_local-some : (before after : StoreOf B) (name value : List ℕ) → after ≡ set_local before name value → 0 < length before.frames → 0 < length after.frames
  set_local-some before after name value set some = omega (arith, some, ap (λ store. length store.frames) set, length-set_local before name value)

  -- and the store without the frame again
  pub pushed_popped : (store : StoreOf B) (back : B) (vs : List Local) → without_frame (with_frame store back vs) ≡ record store { names = with_names store.names vs }
  pushed_popped store back vs = λ i. record {
    variables = store.variables;
    frames = (ap (λ n. take n (store.frames ++ record { back = back; locals = map_of vs } ∷ [])) (length-push store.frames (record { back = back; locals = map_of vs }))
        ∙ take-push store.frames (record { back = back; locals = map_of vs })) i;
    names = with_names store.names vs;
  }

-- a list of length zero is empty
pub none_left : {X : Type 0} (xs : List X) → length xs ≡ 0 → xs ≡ []
none_left [] is = refl
none_left (x ∷ xs) is = absurd (omega arith)

-- a fact about a known outcome
pub of_err : {T E P : Type 0} (r : Result T E) → is_err r ≡ true → OnErr r P → P
of_err (Ok x) is p = (cc)
of_err (Err e) is p = p

pub of_ok : {T E P : Type 0} (r : Result T E) → is_err r ≡ false → OnOk r P → P
of_ok (Ok x) is p = p
of_ok (Err e) is p = (cc)
