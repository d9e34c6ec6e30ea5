-- The entries that are kept have different places, and so do those of each context.
use Rattle.std.proofs.Common.{◌≡◌, ℕ, Bool, true, false, cond, ◌&&◌, ◌==◌, List, [], ◌∷◌, ◌++◌, map, refl, ap, subst, ◌∙◌, sym}
use Rattle.std.specs.List.{All, AllByRecursion, IsDistinct, filter}
use Rattle.std.specs.Cmp.{IsEquivalence, nat_eq_equiv}
use Rattle.std.specs.Cmp.Lexicographic.{nat_list_eq_equiv}
use Rattle.std.proofs.lemmas.Cmp.{on_equiv}
use Rattle.std.proofs.lemmas.List.Elements.{All-from_recursion}
use Rattle.dp_conf.specs.Words.{same_text}
use Rattle.dp_conf.proofs.AnswersLemmas.{snoc_from}
use Rattle.dp_plan.specs.Contexts.{PlanContext}
use Rattle.dp_plan.specs.Extensions.{same_name, extension_of}
use Rattle.dp_plan.specs.Plan.{Addition, Inclusion, same_place, is_place_taken, is_label_taken, is_taken, added_in, kept_in, context_of}
use Rattle.dp_plan.specs.Ranking.{shares_place, AreApart}
use Rattle.dp_plan.specs.declared.entry.Entry.{Entry}
use Rattle.dp_plan.specs.Item.{Item}
use Rattle.dp_plan.proofs.DraftLemmas.{kept_by-filter_map, distinct-more}
use Rattle.dp_plan.proofs.HistoryLemmas.{both_equiv, same_extension_equiv}
use Rattle.dp_plan.proofs.PositionLemmas.{or_false}

-- having the same place is an equivalence
same_place_equiv : IsEquivalence same_place
same_place_equiv =
    both_equiv (on_equiv (λ (a : Addition). extension_of a.context a.entry.name) same_extension_equiv) (on_equiv (λ (a : Addition). a.entry.priority) nat_eq_equiv)

kept_in-push : (items : List Item) (x : Item) → IsDistinct same_place (kept_in items) → IsDistinct same_place (kept_in (items ++ x ∷ []))
kept_in-push items x apart = subst (IsDistinct same_place) (sym (kept_by-filter_map is_taken added_in items x))
    (distinct-more same_place_equiv is_taken (λ kept a free. (or_false (is_place_taken kept a) (is_label_taken kept a) free).0) (kept_in items) (added_in x) apart)

-- the entries that are kept have different places
pub kept-apart : (items : List Item) → IsDistinct same_place (kept_in items)
unfolding IsDistinct
kept-apart items = snoc_from (λ xs. IsDistinct same_place (kept_in xs)) kept_in-push [] items tt

-- entries of a context whose places differ from that of one of its entries have another name or priority
others-apart : (name : List ℕ) (a : Addition) (ys : List Addition) → same_text name a.context ≡ true → AllByRecursion (λ y. same_place a y ≡ false) ys → AllByRecursion (λ e. shares_place a.entry e ≡ false) (map (λ y. y.entry) (filter (λ y. same_text name y.context) ys))
others-apart name a [] e apart = tt
others-apart name a (y ∷ ys) e apart = by (others-apart name a ys e apart.1) (same_text name y.context) refl where
  entries : List Addition → List Entry
  entries xs = map (λ x. x.entry) xs

  by : AllByRecursion (λ x. shares_place a.entry x ≡ false) (entries (filter (λ x. same_text name x.context) ys)) → (t : Bool) → same_text name y.context ≡ t → AllByRecursion (λ x. shares_place a.entry x ≡ false) (entries (cond t (y ∷ filter (λ x. same_text name x.context) ys) (filter (λ x. same_text name x.context) ys)))
  by rest true f =
      let there : same_text a.context y.context ≡ true = sym (nat_list_eq_equiv.congr name a.context y.context e) ∙ f in
      (ap (λ t. (t && same_name a.entry.name y.entry.name) && a.entry.priority == y.entry.priority) (sym there) ∙ apart.0, rest)
  by rest false f = rest

-- the entries of a context are apart if all kept entries are
entries-apart : (name : List ℕ) (kept : List Addition) → IsDistinct same_place kept → AreApart (map (λ a. a.entry) (filter (λ a. same_text name a.context) kept))
unfolding IsDistinct
entries-apart name [] apart = tt
entries-apart name (a ∷ kept) apart = by (entries-apart name kept apart.1) (same_text name a.context) refl where
  entries : List Addition → List Entry
  entries xs = map (λ x. x.entry) xs

  by : AreApart (entries (filter (λ x. same_text name x.context) kept)) → (t : Bool) → same_text name a.context ≡ t → AreApart (entries (cond t (a ∷ filter (λ x. same_text name x.context) kept) (filter (λ x. same_text name x.context) kept)))
  by rest true e = (others-apart name a kept e apart.0, rest)
  by rest false e = rest

-- the entries of each context are apart
each-apart : (kept : List Addition) (included : List Inclusion) (names : List (List ℕ)) → IsDistinct same_place kept → AllByRecursion (λ (c : PlanContext). AreApart c.entries) (map (context_of kept included) names)
each-apart kept included [] apart = tt
each-apart kept included (n ∷ names) apart = (entries-apart n kept apart, each-apart kept included names apart)

pub contexts-apart : (kept : List Addition) (included : List Inclusion) (names : List (List ℕ)) → IsDistinct same_place kept → All (λ (c : PlanContext). AreApart c.entries) (map (context_of kept included) names)
contexts-apart kept included names apart = All-from_recursion (λ (c : PlanContext). AreApart c.entries) (map (context_of kept included) names) (each-apart kept included names apart)
