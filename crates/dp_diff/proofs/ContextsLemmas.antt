-- The contexts of two dialplans, as they are gone through.
use Rattle.std.proofs.Common.{◌≡◌, ℕ, suc, ◌+◌, nat_lt, Bool, true, false, cond, not, ◌||◌, List, [], ◌∷◌, ◌++◌, length, map, filter, Some, None, refl, ap, ◌∙◌, sym, arith}
use Rattle.std.proofs.lemmas.Bool.Decides.{nat_tests}
use Rattle.std.specs.List.{flat_map, list_any, position_or_len}
use Rattle.std.proofs.lemmas.Grind.{flat_map-append}
use Rattle.std.proofs.lemmas.List.Folds.{flat_map-map}
use Rattle.dp_conf.specs.Words.{same_text}
use Rattle.dp_plan.specs.Contexts.{PlanContext}
use Rattle.dp_plan.specs.Lookup.{number_of}
use Rattle.dp_plan.specs.Plan.{PlanOf, is_named}
use Rattle.dp_diff.specs.Differences.{Difference, differences, differences_in, names_of}
use Rattle.dp_diff.specs.steps.Telling.{new_in}

module _ (before : PlanOf) (differences_of : List ℕ → List Difference) where
  -- those that the dialplan does not have
  only_new : (contexts : List PlanContext) → flat_map differences_of (filter (λ name. not (is_named (names_of before) name)) (map (λ context. context.name) contexts)) ≡ flat_map (λ context. new_in differences_of before context.name) contexts
  only_new [] = refl
  only_new (c ∷ contexts) = by (only_new contexts) (is_named (names_of before) c.name) where
    rest : List (List ℕ)
    rest = filter (λ name. not (is_named (names_of before) name)) (map (λ context. context.name) contexts)

    later : List Difference
    later = flat_map (λ context. new_in differences_of before context.name) contexts

    by : flat_map differences_of rest ≡ later → (there : Bool) → flat_map differences_of (cond (not there) (c.name ∷ rest) rest) ≡ cond there [] (differences_of c.name) ++ later
    by same true = same
    by same false = ap (λ (ds : List Difference). differences_of c.name ++ ds) same

-- the differences in contexts, and in those of them that the dialplan does not have
abbrev pub in_contexts : PlanOf × PlanOf → List PlanContext → List Difference
in_contexts plans contexts = flat_map (λ context. differences_in plans.0 plans.1 context.name) contexts

abbrev pub in_new_contexts : PlanOf × PlanOf → PlanOf → List PlanContext → List Difference
in_new_contexts plans before contexts = flat_map (λ context. new_in (differences_in plans.0 plans.1) before context.name) contexts

-- all differences: those in the contexts before the change, and then those in the other contexts after it
pub contexts_apart : (before after : PlanOf) → differences before after ≡ in_contexts (before, after) before.contexts ++ in_new_contexts (before, after) before after.contexts
unfolding differences
contexts_apart before after =
    let names = filter (λ name. not (is_named (names_of before) name)) (names_of after) in
    flat_map-append (differences_in before after) (names_of before) names
    ∙ (ap (λ (ds : List Difference). ds ++ flat_map (differences_in before after) names)
    (flat_map-map (differences_in before after) (λ (context : PlanContext). context.name) before.contexts)
    ∙ ap (λ (ds : List Difference). in_contexts (before, after) before.contexts ++ ds) (only_new before (differences_in before after) after.contexts))

-- the same contexts of the same dialplans have the same differences
pub in_contexts_of : (change plans : PlanOf × PlanOf) (contexts others : List PlanContext) → change ≡ plans → contexts ≡ others → in_contexts change contexts ≡ in_contexts plans others
in_contexts_of change plans contexts others same is = λ i. in_contexts (same i) (is i)

pub in_new_contexts_of : (change plans : PlanOf × PlanOf) (before : PlanOf) (contexts others : List PlanContext) → change ≡ plans → contexts ≡ others → in_new_contexts change before contexts ≡ in_new_contexts plans before others
in_new_contexts_of change plans before contexts others same is = λ i. in_new_contexts (same i) before (is i)

-- the place of an element that passes the test is within the list, if there is one
position_within : {X : Type 0} (p : X → Bool) (xs : List X) → nat_lt (position_or_len p xs) (length xs) ≡ list_any p xs
position_within p [] = refl
position_within p (x ∷ xs) = by (position_within p xs) (p x) where
  by : nat_lt (position_or_len p xs) (length xs) ≡ list_any p xs → (t : Bool) → nat_lt (cond (not t) (1 + position_or_len p xs) 0) (length (x ∷ xs)) ≡ (t || list_any p xs)
  by later true = grind (arith, nat_tests)
  by later false = moved (position_or_len p xs) (length xs) ∙ later where
    moved : (a b : ℕ) → nat_lt (1 + a) (suc b) ≡ nat_lt a b
    moved a b = grind (arith, nat_tests)

-- a dialplan has a context with a name exactly if the name has a number
pub named_by_number : (plan : PlanOf) (name : List ℕ) (number : ℕ) → number_of plan name ≡ Some number → is_named (names_of plan) name ≡ true
named_by_number plan name number found =
    sym (position_within (same_text name) (names_of plan)) ∙ by (nat_lt (position_or_len (same_text name) (names_of plan)) (length (names_of plan))) found where
      by : (t : Bool) → cond t (Some (position_or_len (same_text name) (names_of plan))) None ≡ Some number → t ≡ true
      by true there = refl
      by false there = absurd cc

pub unnamed_by_number : (plan : PlanOf) (name : List ℕ) → number_of plan name ≡ None → is_named (names_of plan) name ≡ false
unnamed_by_number plan name missing =
    sym (position_within (same_text name) (names_of plan)) ∙ by (nat_lt (position_or_len (same_text name) (names_of plan)) (length (names_of plan))) missing where
      by : (t : Bool) → cond t (Some (position_or_len (same_text name) (names_of plan))) None ≡ None → t ≡ false
      by true there = absurd cc
      by false there = refl

-- the differences in a context, if the dialplan has it or not
pub new_in-known : (differences_of : List ℕ → List Difference) (plan : PlanOf) (name : List ℕ) (number : ℕ) → number_of plan name ≡ Some number → new_in differences_of plan name ≡ []
new_in-known differences_of plan name number found = ap (λ t. cond t [] (differences_of name)) (named_by_number plan name number found)

pub new_in-unknown : (differences_of : List ℕ → List Difference) (plan : PlanOf) (name : List ℕ) → number_of plan name ≡ None → new_in differences_of plan name ≡ differences_of name
new_in-unknown differences_of plan name missing = ap (λ t. cond t [] (differences_of name)) (unnamed_by_number plan name missing)

-- the differences in equal contexts of equal dialplans
pub differences_at : (change plans : PlanOf × PlanOf) (name other : List ℕ) → change ≡ plans → name ≡ other → differences_in change.0 change.1 name ≡ differences_in plans.0 plans.1 other
differences_at change plans name other same is = λ i. differences_in (same i).0 (same i).1 (is i)

pub new_differences_at : (change plans : PlanOf × PlanOf) (before : PlanOf) (name other : List ℕ) → change ≡ plans → name ≡ other → new_in (differences_in change.0 change.1) before name ≡ new_in (differences_in plans.0 plans.1) before other
new_differences_at change plans before name other same is = λ i. new_in (differences_in (same i).0 (same i).1) before (is i)

pub unnumbered_by_name : (plan : PlanOf) (name : List ℕ) → is_named (names_of plan) name ≡ false → number_of plan name ≡ None
unnumbered_by_name plan name unknown =
    ap (λ t. cond t (Some (position_or_len (same_text name) (names_of plan))) None) (position_within (same_text name) (names_of plan) ∙ unknown)
