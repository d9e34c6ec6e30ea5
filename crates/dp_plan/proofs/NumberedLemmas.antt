-- Entries whose extensions have the same number have the same name.
use Rattle.std.proofs.Common.{◌≡◌, ℕ, zero, suc, true, List, [], ◌∷◌, map, slice_get, Some, refl, ap, subst, ◌∙◌, sym}
use Rattle.std.specs.List.{AllByRecursion, filter}
use Rattle.std.specs.Option.{option_map}
use Rattle.std.proofs.lemmas.List.{length-map}
use Rattle.dp_conf.specs.Words.{same_text}
use Rattle.dp_plan.specs.Contexts.{PlanContext}
use Rattle.dp_plan.specs.Extensions.{extension_of, same_name}
use Rattle.dp_plan.specs.Plan.{Addition, Inclusion, context_of}
use Rattle.dp_plan.specs.steps.Numbers.{is_same_found, AreNumbered, AreAllNumbered}
use Rattle.dp_plan.specs.steps.Table.{number_in}
use Rattle.dp_plan.proofs.DraftLemmas.{Priorities, IsKnown, numbers_of, each-filtered}
use Rattle.dp_plan.proofs.PositionLemmas.{and_true}
use Rattle.dp_plan.proofs.TableLemmas.{is_known, same_number}

-- the element at a place of mapped values is the value of the element at this place
at_place : {X Y : Type 0} (f : X → Y) (xs : List X) (i : ℕ) (y : Y) → slice_get (map f xs) i ≡ Some y → (x : X) × (slice_get xs i ≡ Some x) × (f x ≡ y)
at_place f [] i y here = absurd cc
at_place f (x ∷ xs) zero y here =
    let same : f x ≡ y = cc in
    (x, refl, same)
at_place f (x ∷ xs) (suc i) y here = at_place f xs i y here

-- the value of the element at a place is at this place of the mapped values
value_at : {X Y : Type 0} (f : X → Y) (xs : List X) (i : ℕ) (x : X) → slice_get xs i ≡ Some x → slice_get (map f xs) i ≡ Some (f x)
value_at f [] i x here = absurd cc
value_at f (y ∷ xs) zero x here = ap (option_map f) here
value_at f (y ∷ xs) (suc i) x here = value_at f xs i x here

-- what holds of each element holds of the one at a place
each_at : {X : Type 0} (P : X → Type 0) (xs : List X) (i : ℕ) (x : X) → AllByRecursion P xs → slice_get xs i ≡ Some x → P x
each_at P [] i x all here = absurd cc
each_at P (y ∷ xs) zero x all here =
    let same : y ≡ x = cc in
    subst P same all.0
each_at P (y ∷ xs) (suc i) x all here = each_at P xs i x all.1 here

module _ (es : Priorities) where
  -- the number of an addition's extension
  abbrev number_of : Addition → ℕ
  number_of a = number_in es (extension_of a.context a.entry.name)

  -- added entries have their numbers
  numbered : (xs : List Addition) → IsKnown es xs → AreNumbered (map (λ a. a.entry) xs) (map number_of xs)
  numbered xs all i j a b at_i at_j one =
      let x = at_place (λ (c : Addition). c.entry) xs i a at_i in
      let y = at_place (λ (c : Addition). c.entry) xs j b at_j in
      let known_x = each_at (λ (c : Addition). is_known es (extension_of c.context c.entry.name) ≡ true) xs i x.0 all x.1 in
      let known_y = each_at (λ (c : Addition). is_known es (extension_of c.context c.entry.name) ≡ true) xs j y.0 all y.1 in
      let both = (λ k. is_same_found (sym (value_at number_of xs i x.0 x.1) k) (sym (value_at number_of xs j y.0 y.1) k)) ∙ one in
      let same = sym (same_number es (extension_of x.0.context x.0.entry.name) (extension_of y.0.context y.0.entry.name) known_x known_y) ∙ both in
      let names = (and_true (same_text x.0.context y.0.context) (same_name x.0.entry.name y.0.entry.name) same).1 in
      (λ k. same_name (sym x.2 k).name (sym y.2 k).name) ∙ names

  -- the entries of each context have their numbers
  pub contexts-numbered : (kept : List Addition) (included : List Inclusion) (names : List (List ℕ)) → IsKnown es kept → AreAllNumbered (map (context_of kept included) names) (map (numbers_of es kept) names)
  contexts-numbered kept included names all = record {
    count = length-map names (numbers_of es kept) ∙ sym (length-map names (context_of kept included));
    each = λ number context ns at_context at_numbers.
        let x = at_place (context_of kept included) names number context at_context in
        let y = at_place (numbers_of es kept) names number ns at_numbers in
        let one : x.0 ≡ y.0 = (let same = sym x.1 ∙ y.1 in cc) in
        let ours : List Addition = filter (λ a. same_text x.0 a.context) kept in
        let there : AreNumbered (context_of kept included x.0).entries (numbers_of es kept x.0) = numbered ours (each-filtered (λ a. is_known es (extension_of a.context a.entry.name) ≡ true) (λ a. same_text x.0 a.context) kept all) in
        let numbers_are : numbers_of es kept x.0 ≡ ns = ap (numbers_of es kept) one ∙ y.2 in
        subst (λ (c : PlanContext). AreNumbered c.entries ns) x.2 (subst (AreNumbered (context_of kept included x.0).entries) numbers_are there);
  }
