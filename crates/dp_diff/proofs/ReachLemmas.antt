-- Contexts that a call reaches in one dialplan alone, and the table of the contexts that it reaches.
use Rattle.std.proofs.Common.{◌≡◌, ◌≢◌, ◌⊎◌, inl, inr, ℕ, Bool, true, false, cond, not, ◌&&◌, ◌||◌, nat_eq, List, [], ◌∷◌, ◌++◌, filter, map, Option, refl, ap, sym, ◌∙◌}
use Rattle.std.specs.List.{list_any}
use Rattle.std.specs.Option.{option_map_or}
use Rattle.std.proofs.Math.Bool.{or-false}
use Rattle.std.proofs.lemmas.Bool.Decides.{eqb_tells}
use Rattle.std.proofs.lemmas.List.Folds.{list_any-append}
use Rattle.indexmap.specs.IndexSet.{insert_all, insert_key}
use Rattle.dp_conf.specs.Words.{same_text}
use Rattle.dp_plan.specs.Plan.{is_named}
use Rattle.dp_plan.specs.declared.entry.EntryId.{EntryId}
use Rattle.dp_diff.specs.Differences.{names_of}
use Rattle.dp_diff.specs.Reaches.{ReachOf, has_entry_of, only_reached, reaches, reaches_only}
use Rattle.dp_diff.proofs.AlikeLemmas.{among_filtered}
use Rattle.dp_diff.proofs.ContextsLemmas.{unnumbered_by_name}

-- nothing is so and not so
not_both : (t : Bool) → (t && not t) ≡ false
not_both true = refl
not_both false = refl

-- two tests of which each holds if the other does
same_both : (a b : Bool) → (a && not b) ≡ false → (b && not a) ≡ false → a ≡ b
same_both true true one other = refl
same_both true false one other = one
same_both false true one other = sym other
same_both false false one other = refl

module _ (one other : ReachOf) where
  -- no name passes
  none_passes : ((name : List ℕ) → reaches one name ≡ reaches other name) → (names : List (List ℕ)) → filter (reaches_only one other) names ≡ []
  none_passes same [] = refl
  none_passes same (name ∷ names) =
      ap (λ t. cond t (name ∷ filter (reaches_only one other) names) (filter (reaches_only one other) names))
      (ap (λ t. t && not (reaches other name)) (same name) ∙ not_both (reaches other name))
      ∙ none_passes same names

  -- a call reaches the same contexts, so none in one dialplan alone
  pub none_reached : ((name : List ℕ) → reaches one name ≡ reaches other name) → only_reached one other ≡ []
  unfolding only_reached
  none_reached same = none_passes same (names_of one.plan)

  -- a call reaches none in one dialplan alone
  not_only : only_reached one other ≡ [] → (name : List ℕ) → reaches_only one other name ≡ false
  unfolding only_reached
  not_only none name = by (reaches_only one other name) refl (is_named (names_of one.plan) name) refl where
    by : (t : Bool) → reaches_only one other name ≡ t → (s : Bool) → is_named (names_of one.plan) name ≡ s → t ≡ false
    by false only s is = refl
    by true only true there =
        sym (among_filtered (reaches_only one other) name only (names_of one.plan) there) ∙ ap (λ (names : List (List ℕ)). list_any (same_text name) names) none
    by true only false missing =
        sym only ∙ ap (λ (number : Option ℕ). option_map_or one.has_entry number false && not (reaches other name)) (unnumbered_by_name one.plan name missing)

-- a call reaches the same contexts exactly if it reaches none in one dialplan alone
pub reached_alike : (before after : ReachOf) → only_reached before after ≡ [] → only_reached after before ≡ [] → (name : List ℕ) → reaches before name ≡ reaches after name
reached_alike before after lost gained name =
    same_both (reaches before name) (reaches after name) (not_only before after lost name) (not_only after before gained name)

either_of_three : (x y z : Bool) → ((x || y) || z) ≡ (x || (y || z))
either_of_three true y z = refl
either_of_three false y z = refl

module _ (number : ℕ) where
  -- whether the number is among others
  abbrev among : List ℕ → Bool
  among others = list_any (nat_eq number) others

  -- one more that is there already
  among_known : (before : List ℕ) (x : ℕ) → list_any (nat_eq x) before ≡ true → among before ≡ (among before || nat_eq number x)
  among_known before x there = by (eqb_tells number x) where
    by : ((nat_eq number x ≡ true) × (number ≡ x)) ⊎ ((nat_eq number x ≡ false) × (number ≢ x)) → among before ≡ (among before || nat_eq number x)
    by (inl same) =
        let here : among before ≡ true = ap (λ (n : ℕ). list_any (nat_eq n) before) same.1 ∙ there in
        here ∙ sym (ap (λ t. t || nat_eq number x) here)
    by (inr other) = sym (ap (λ t. among before || t) other.0 ∙ or-false (among before))

  -- one more is inserted
  among_key : (before : List ℕ) (x : ℕ) → among (insert_key nat_eq before x) ≡ (among before || nat_eq number x)
  among_key before x = by (list_any (nat_eq x) before) (among_known before x) where
    by : (t : Bool) → (t ≡ true → among before ≡ (among before || nat_eq number x)) → among (cond t before (before ++ x ∷ [])) ≡ (among before || nat_eq number x)
    by true known = known refl
    by false known = list_any-append (nat_eq number) before (x ∷ []) ∙ ap (λ t. among before || t) (or-false (nat_eq number x))

  -- others are inserted
  among_all : (before others : List ℕ) → among (insert_all nat_eq before others) ≡ (among before || among others)
  among_all before [] = sym (or-false (among before))
  among_all before (x ∷ others) =
      among_all (insert_key nat_eq before x) others
      ∙ (ap (λ t. t || among others) (among_key before x) ∙ either_of_three (among before) (nat_eq number x) (among others))

  -- the numbers of the contexts of entries
  among_contexts : (entries : List EntryId) → among (map (λ id. id.context) entries) ≡ has_entry_of entries number
  among_contexts [] = refl
  among_contexts (id ∷ entries) = ap (λ t. nat_eq number id.context || t) (among_contexts entries)

  -- a table of these numbers
  pub among_table : (entries : List EntryId) → among (insert_all nat_eq [] (map (λ id. id.context) entries)) ≡ has_entry_of entries number
  among_table entries = among_all [] (map (λ id. id.context) entries) ∙ among_contexts entries
