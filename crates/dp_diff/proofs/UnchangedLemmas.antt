-- A dialplan has no differences from itself.
use Rattle.std.proofs.Common.{◌≡◌, ℕ, Bool, true, false, cond, ◌&&◌, ◌||◌, List, [], ◌∷◌, ◌++◌, Some, None, map, refl, sym, ap, ◌∙◌}
use Rattle.std.specs.List.{find, flat_map}
use Rattle.std.specs.Char.{to_ascii_lowercase}
use Rattle.std.specs.Cmp.Lexicographic.{nat_list_eq_equiv}
use Rattle.std.proofs.lemmas.List.{append_assoc}
use Rattle.dp_conf.specs.Words.{same_text, same_word}
use Rattle.dp_plan.specs.Plan.{PlanOf, kept_by}
use Rattle.dp_plan.specs.Ranking.{shares_place}
use Rattle.dp_plan.specs.declared.entry.Entry.{Entry}
use Rattle.dp_diff.specs.Answering.{answering, has_place, searched_entries}
use Rattle.dp_diff.specs.Differences.{Difference, addition_at, change_at, changed_to, contexts_of, differences, differences_in, does_same}
use Rattle.dp_diff.specs.steps.Places.{shares_place_equiv}

-- two tests that hold hold together
both_true : (a b : Bool) → a ≡ true → b ≡ true → (a && b) ≡ true
both_true true b h k = k
both_true false b h k = h

-- an entry does the same as itself
does_same-refl : (e : Entry) → does_same e e ≡ true
does_same-refl e =
    both_true (same_word e.application e.application) (same_text e.arguments e.arguments)
    (nat_list_eq_equiv.refl (map to_ascii_lowercase e.application)) (nat_list_eq_equiv.refl e.arguments)

-- an entry is found at its own place, if none before it has the place
pub found_itself : (before after : List Entry) (e : Entry) → has_place before e ≡ false → find (shares_place e) (before ++ e ∷ after) ≡ Some e
found_itself [] after e free = ap (λ t. cond t (Some e) (find (shares_place e) after)) (shares_place_equiv.refl e)
found_itself (x ∷ before) after e free = by (found_itself before after e) (shares_place e x) free where
  by : (has_place before e ≡ false → find (shares_place e) (before ++ e ∷ after) ≡ Some e)
      → (t : Bool) → (t || has_place before e) ≡ false → cond t (Some x) (find (shares_place e) (before ++ e ∷ after)) ≡ Some e
  by later true taken = absurd cc
  by later false free_there = later free_there

-- its place is there
pub there_itself : (before after : List Entry) (e : Entry) → has_place (before ++ e ∷ after) e ≡ true
there_itself [] after e = ap (λ t. t || has_place after e) (shares_place_equiv.refl e)
there_itself (x ∷ before) after e = ap (λ t. shares_place e x || t) (there_itself before after e) ∙ or_true (shares_place e x) where
  or_true : (t : Bool) → (t || true) ≡ true
  or_true true = refl
  or_true false = refl

-- an entry is not changed into itself
changed_to-itself : (context : List ℕ) (e : Entry) → changed_to context e (Some e) ≡ []
changed_to-itself context e =
    ap (λ t. cond t [] ((record { context = context; before = Some e; after = Some e }) ∷ [])) (does_same-refl e)

module _ (context : List ℕ) where
  -- no entry that answers is changed
  none_changed : (before entries : List Entry) → flat_map (change_at context (before ++ kept_by has_place before entries)) (kept_by has_place before entries) ≡ []
  none_changed before [] = refl
  none_changed before (e ∷ entries) = by (none_changed before entries) (none_changed (before ++ e ∷ []) entries) (has_place before e) refl where
    rest : List Entry
    rest = kept_by has_place (before ++ e ∷ []) entries

    kept : Bool → List Entry
    kept t = cond t (kept_by has_place before entries) (e ∷ rest)

    by : flat_map (change_at context (before ++ kept_by has_place before entries)) (kept_by has_place before entries) ≡ []
        → flat_map (change_at context ((before ++ e ∷ []) ++ rest)) rest ≡ []
        → (t : Bool) → has_place before e ≡ t → flat_map (change_at context (before ++ kept t)) (kept t) ≡ []
    by without with_it true taken = without
    by without with_it false free =
        ap (λ (ds : List Difference). ds ++ flat_map (change_at context (before ++ e ∷ rest)) rest)
        (ap (changed_to context e) (found_itself before rest e free) ∙ changed_to-itself context e)
        ∙ (ap (λ (all : List Entry). flat_map (change_at context all) rest) (sym (append_assoc before (e ∷ []) rest)) ∙ with_it)

  -- and none is added
  none_added : (before entries : List Entry) → flat_map (addition_at context (before ++ entries)) entries ≡ []
  none_added before [] = refl
  none_added before (e ∷ entries) =
      ap (λ t. cond t [] ((record { context = context; before = None; after = Some e }) ∷ []) ++ flat_map (addition_at context (before ++ e ∷ entries)) entries)
      (there_itself before entries e)
      ∙ (ap (λ (all : List Entry). flat_map (addition_at context all) entries) (sym (append_assoc before (e ∷ []) entries))
      ∙ none_added (before ++ e ∷ []) entries)

-- a context has no differences
none_in : (plan : PlanOf) (context : List ℕ) → differences_in plan plan context ≡ []
unfolding answering
none_in plan context =
    ap (λ (ds : List Difference). ds ++ flat_map (addition_at context (kept_by has_place [] (searched_entries plan context))) (kept_by has_place [] (searched_entries plan context)))
    (none_changed context [] (searched_entries plan context))
    ∙ none_added context [] (kept_by has_place [] (searched_entries plan context))

-- nothing comes of nothing
pub flat_map-none : {X Y : Type 0} (f : X → List Y) → ((x : X) → f x ≡ []) → (xs : List X) → flat_map f xs ≡ []
flat_map-none f none [] = refl
flat_map-none {X} {Y} f none (x ∷ xs) = ap (λ (ys : List Y). ys ++ flat_map f xs) (none x) ∙ flat_map-none f none xs

-- no context has differences
pub differences-same : (plan : PlanOf) → differences plan plan ≡ []
unfolding differences
differences-same plan = flat_map-none (differences_in plan plan) (none_in plan) (contexts_of plan plan)
