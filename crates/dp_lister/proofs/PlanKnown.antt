-- Facts about each dialplan that a text loads as.
use Rattle.std.proofs.Common.{◌≡◌, ℕ, ◌<◌, Bool, true, false, cond, List, [], ◌∷◌, ◌++◌, map, Ok, refl, ap, ◌∙◌, sym, subst, append-nil}
use Rattle.std.specs.List.{AllByRecursion, filter, filter_map, cons_option}
use Rattle.std.proofs.lemmas.List.Elements.{filter-append}
use Rattle.std.proofs.lemmas.Slice.Eq.{bytes_eq-Decides}
use Rattle.dp_conf.specs.Words.{same_text}
use Rattle.dp_plan.specs.Loaded.{plan_and_notes}
use Rattle.dp_plan.specs.Plan.{PlanOf, Addition, Inclusion, is_taken, is_named, kept_by, added_in, included_in, context_in, global_in, kept_in, names_in, context_of, plan_of}
use Rattle.dp_plan.specs.declared.note.Note.{Note}
use Rattle.dp_plan.proofs.ItemWords.{item_word as Item, begins as Begins, by_section, by_item}
use Rattle.dp_plan.proofs.PartsKnown.{IsContextName, IsGlobal, IsIncluded}
use Rattle.dp_lister.proofs.Canonical.{IsFresh, IsContext, IsCanonical}
use Rattle.dp_plan.proofs.DraftLemmas.{names-contexts}
use Rattle.dp_plan.proofs.ItemsKnown.{IsFineSection, IsFine}
use Rattle.dp_plan.proofs.NamedLemmas.{each-filter_map, each-filter, each-map, each-kept, plan_and_notes-made, made-fine, IsFineAddition, kept-known, entries-known}
use Rattle.dp_lister.proofs.PlanAgain.{is_of, taken-local}

-- ---- parts of lists

passes : {X : Type 0} (test : X → Bool) (xs : List X) → AllByRecursion (λ x. test x ≡ true) (filter test xs)
passes test [] = tt
passes {X} test (x ∷ xs) = by (test x) refl (passes test xs)
  where
    by : (t : Bool) → test x ≡ t → AllByRecursion (λ x. test x ≡ true) (filter test xs) → AllByRecursion (λ x. test x ≡ true) (cond t (x ∷ filter test xs) (filter test xs))
    by true e rest = (e, rest)
    by false e rest = rest

-- no kept element is taken by those kept before it
fresh-kept : {X : Type 0} (taken : List X → X → Bool) (before xs : List X) → IsFresh taken before (kept_by taken before xs)
fresh-kept taken before [] = tt
fresh-kept {X} taken before (x ∷ xs) = by (taken before x) refl (fresh-kept taken before xs) (fresh-kept taken (before ++ x ∷ []) xs)
  where
    by : (t : Bool) → taken before x ≡ t → IsFresh taken before (kept_by taken before xs) → IsFresh taken (before ++ x ∷ []) (kept_by taken (before ++ x ∷ []) xs) → IsFresh taken before (cond t (kept_by taken before xs) (x ∷ kept_by taken (before ++ x ∷ []) xs))
    by true e rest kept = rest
    by false e rest kept = (e, kept)

-- the same for the entries of one context
fresh-filter : (name : List ℕ) (before xs : List Addition) → IsFresh is_taken before xs → IsFresh is_taken (filter (is_of name) before) (filter (is_of name) xs)
fresh-filter name before [] fresh = tt
fresh-filter name before (x ∷ xs) fresh = by (is_of name x) refl (fresh-filter name (before ++ x ∷ []) xs fresh.1)
  where
    pushed : (t : Bool) → is_of name x ≡ t → filter (is_of name) (before ++ x ∷ []) ≡ filter (is_of name) before ++ cond t (x ∷ []) []
    pushed t e = filter-append (is_of name) before (x ∷ []) ∙ ap (λ t. filter (is_of name) before ++ cond t (x ∷ []) []) e

    by : (t : Bool) → is_of name x ≡ t → IsFresh is_taken (filter (is_of name) (before ++ x ∷ [])) (filter (is_of name) xs) → IsFresh is_taken (filter (is_of name) before) (cond t (x ∷ filter (is_of name) xs) (filter (is_of name) xs))
    by true e rest =
        (sym (taken-local name before x e) ∙ fresh.0, subst (λ (b : List Addition). IsFresh is_taken b (filter (is_of name) xs)) (pushed true e) rest)
    by false e rest =
        subst (λ (b : List Addition). IsFresh is_taken b (filter (is_of name) xs)) (pushed false e ∙ append-nil (filter (is_of name) before)) rest

-- ---- one context

same_text-is : (a b : List ℕ) → same_text a b ≡ true → a ≡ b
same_text-is a b e = (bytes_eq-Decides a b).0 e

additions-back : (name : List ℕ) (xs : List Addition) → AllByRecursion (λ x. is_of name x ≡ true) xs → map (λ e. record { context = name; entry = e }) (map (λ (x : Addition). x.entry) xs) ≡ xs
additions-back name [] own = refl
additions-back name (x ∷ xs) own =
    let same = same_text-is name x.context own.0 in
    λ i. record { context = same i; entry = x.entry } ∷ additions-back name xs own.1 i

abbrev IsFineInclusion : Inclusion → Type 0
IsFineInclusion inclusion = IsIncluded inclusion.name

context-known : (kept : List Addition) (included : List Inclusion) (name : List ℕ) → AllByRecursion IsFineAddition kept → AllByRecursion IsFineInclusion included → IsFresh is_taken [] kept → IsContextName name → IsContext (context_of kept included name)
context-known kept included name additions inclusions fresh fine = record {
  name = fine;
  entries = entries-known kept name additions;
  includes = each-map IsIncluded (λ (i : Inclusion). i.name) (filter (λ (i : Inclusion). same_text name i.context) included) (each-filter IsFineInclusion (λ (i : Inclusion). same_text name i.context) included inclusions);
  apart = subst (IsFresh is_taken []) (sym (additions-back name (filter (is_of name) kept) (passes (is_of name) kept))) (fresh-filter name [] kept fresh);
}

contexts-known : (kept : List Addition) (included : List Inclusion) (names : List (List ℕ)) → AllByRecursion IsFineAddition kept → AllByRecursion IsFineInclusion included → IsFresh is_taken [] kept → AllByRecursion IsContextName names → AllByRecursion IsContext (map (context_of kept included) names)
contexts-known kept included [] additions inclusions fresh fine = tt
contexts-known kept included (name ∷ names) additions inclusions fresh fine =
    (context-known kept included name additions inclusions fresh fine.0, contexts-known kept included names additions inclusions fresh fine.1)

-- ---- the dialplan of items

-- facts about what an item gives: the include, the global variable, and the name of the context
abbrev IsFineGiven : Item → Type 0
IsFineGiven x =
    AllByRecursion IsFineInclusion (cons_option (included_in x) []) × AllByRecursion IsGlobal (cons_option (global_in x) []) × AllByRecursion IsContextName (cons_option (context_in x) [])

given-known : (x : Item) → IsFine x → IsFineGiven x
given-known =
    by_item (λ x. IsFine x → IsFineGiven x)
    (by_section (λ s. IsFineSection s → IsFineGiven (Begins s)) (λ fine. (tt, tt, tt)) (λ fine. (tt, tt, tt)) (λ name fine. (tt, tt, (fine, tt))))
    (λ global fine. (tt, (fine, tt), tt)) (λ line context entry fine. (tt, tt, (fine.0, tt))) (λ line context name fine. ((fine.1, tt), tt, (fine.0, tt)))
    (λ line fine. (tt, tt, tt))

plan_of-known : (items : List Item) → AllByRecursion IsFine items → IsCanonical (plan_of items)
unfolding plan_of
plan_of-known items fine =
    record {
      globals = each-filter_map IsFine IsGlobal global_in (λ x f. (given-known x f).1) items fine;
      contexts = contexts-known (kept_in items) (filter_map included_in items) (names_in items)
          (kept-known items fine)
          (each-filter_map IsFine IsFineInclusion included_in (λ x f. (given-known x f).0) items fine)
          (fresh-kept is_taken [] (filter_map added_in items))
          (each-kept IsContextName is_named [] (filter_map context_in items) (each-filter_map IsFine IsContextName context_in (λ x f. (given-known x f).2) items fine));
      names = subst (IsFresh is_named []) (sym (names-contexts (kept_in items) (filter_map included_in items) (names_in items))) (fresh-kept is_named [] (filter_map context_in items));
    }

-- ---- a dialplan that loads

-- each dialplan that a text loads as can be written and read again
pub plan_and_notes-known : (text : List ℕ) (plan : PlanOf) (notes : List Note) → AllByRecursion (λ b. b < 256) text → plan_and_notes text ≡ Ok (plan, notes) → IsCanonical plan
plan_and_notes-known text plan notes bytes e =
    let made = plan_and_notes-made text plan notes e in
    subst IsCanonical made.makes (plan_of-known made.items (made-fine text plan bytes made))
