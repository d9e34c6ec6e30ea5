-- A look-up from a context never finds an entry that is hidden from it.
use Rattle.std.proofs.Common.{◌≡◌, ◌≢◌, ℕ, zero, suc, ◌<◌, ◌==◌, Bool, true, false, true≢false, ◌&&◌, ◌||◌, List, [], ◌∷◌, Option, Some, None, MatchOption, if◌then◌else◌, arith, refl, sym, ap, subst, ◌∙◌}
use Rattle.std.specs.Prelude.{All, slice_get}
use Rattle.std.specs.List.{list_any}
use Rattle.std.specs.Option.{option_and_then}
use Rattle.std.specs.Cmp.{nat_cmp_is}
use Rattle.std.specs.Ordering.{ordering_then}
use Rattle.std.specs.declared.cmp.Ordering.TheVariants.{Less}
use Rattle.std.proofs.lemmas.Bool.{eq-eqb, eqb-true}
use Rattle.std.proofs.lemmas.Option.{none-some, same_Some}
use Rattle.dp_pattern.specs.Matches.{Matches}
use Rattle.dp_pattern.specs.Name.{Meaning, IsName}
use Rattle.dp_pattern.specs.Order.{name_cmp}
use Rattle.dp_lookup.specs.Found.{HasPriority, IsFound, NoneAsked}
use Rattle.dp_lookup.specs.FoundEntry.{entries_at, found_entry}
use Rattle.dp_lookup.specs.SearchOrder.{has}
use Rattle.dp_lookup.proofs.FoundLemmas.{found_entry-least}
use Rattle.dp_plan.specs.Contexts.{AreNamed, PlanContext}
use Rattle.dp_plan.specs.Extensions.{same_name}
use Rattle.dp_plan.specs.Lookup.{entry_at}
use Rattle.dp_plan.specs.Plan.{PlanOf}
use Rattle.dp_plan.specs.Ranking.{shares_place}
use Rattle.dp_plan.specs.declared.entry.Entry.{Entry}
use Rattle.dp_plan.specs.declared.entry.EntryId.{EntryId}
use Rattle.dp_audit.specs.Hidden.{is_hidden, some_shares}
use Rattle.dp_audit.specs.Orders.{before, order_at}
use Rattle.dp_audit.proofs.HidingLemmas.{entry_by}
use Rattle.dp_audit.proofs.NeighbourLemmas.{named_at, one_meaning, ranked_at_named}

-- an element of a list passes the test
record Passing {X : Type 0} (test : X → Bool) (xs : List X) : Type 0 where
  place : ℕ
  element : X
  there : slice_get xs place ≡ Some element
  passes : test element ≡ true

passing_first : {X : Type 0} (test : X → Bool) (x : X) (xs : List X) → (list_any test xs ≡ true → Passing test xs)
    → (b : Bool) → test x ≡ b → (b || list_any test xs) ≡ true → Passing test (x ∷ xs)
passing_first test x xs rest true here some = record { place = zero; element = x; there = refl; passes = here }
passing_first test x xs rest false other some =
    let later = rest some in
    record { place = suc later.place; element = later.element; there = later.there; passes = later.passes }

passing : {X : Type 0} (test : X → Bool) (xs : List X) → list_any test xs ≡ true → Passing test xs
passing test [] some = absurd (true≢false (sym some))
passing test (x ∷ xs) some = passing_first test x xs (passing test xs) (test x) refl some

-- a context of an order before a place passes the test
record Earlier (test : ℕ → Bool) (order : List ℕ) (place : ℕ) : Type 0 where
  at : ℕ
  number : ℕ
  below : at < place
  there : slice_get order at ≡ Some number
  passes : test number ≡ true

earlier_first : (test : ℕ → Bool) (c first : ℕ) (order : List ℕ) (place : ℕ) → (list_any test (before c order) ≡ true → Earlier test order place)
    → (b : Bool) → list_any test (if b then [] else first ∷ before c order) ≡ true → (t : Bool) → test first ≡ t → Earlier test (first ∷ order) (suc place)
earlier_first test c first order place rest true some t tested = absurd (true≢false (sym some))
earlier_first test c first order place rest false some true here =
    record { at = zero; number = first; below = omega arith; there = refl; passes = here }
earlier_first test c first order place rest false some false other =
    let later = rest (sym (ap (λ t. t || list_any test (before c order)) other) ∙ some) in
    record { at = suc later.at; number = later.number; below = omega (arith, later.below); there = later.there; passes = later.passes }

earlier : (test : ℕ → Bool) (c : ℕ) (order : List ℕ) (place : ℕ) → slice_get order place ≡ Some c → list_any test (before c order) ≡ true → Earlier test order place
earlier test c [] place there some = absurd (none-some c there)
earlier test c (first ∷ order) zero there some =
    absurd (true≢false (sym some ∙ ap (λ b. list_any test (if b then [] else first ∷ before c order)) (eq-eqb first c (same_Some first c there))))
earlier test c (first ∷ order) (suc place) there some =
    earlier_first test c first order place (earlier test c order place there) (first == c) some (test first) refl

both : (a b : Bool) → (a && b) ≡ true → (a ≡ true) × (b ≡ true)
both true b e = (refl, e)
both false b e = absurd (true≢false (sym e))

named_entry : (plan : PlanOf) → All (λ (c : PlanContext). AreNamed c.entries) plan.contexts → (id : EntryId) (entry : Entry) → entry_at plan id ≡ Some entry → IsName entry.name
named_entry plan named id entry there = by (slice_get plan.contexts id.context) refl there
  where
    by : (o : Option PlanContext) → slice_get plan.contexts id.context ≡ o → option_and_then (λ context. slice_get context.entries id.entry) o ≡ Some entry → IsName entry.name
    by None known there = absurd (none-some entry there)
    by (Some context) known there = named_at context.entries (ranked_at_named plan named id.context context known) id.entry entry there

-- an entry that is found is not hidden
pub never_found : (plan : PlanOf) → All (λ (c : PlanContext). AreNamed c.entries) plan.contexts → (from : ℕ) (id : EntryId) (entry : Entry)
    → entry_at plan id ≡ Some entry → is_hidden plan id entry from ≡ true → (text : List ℕ) (priority : ℕ)
    → found_entry plan (order_at plan from) text priority ≢ Some id
never_found plan named from id entry there hidden text priority found =
    let order = order_at plan from in
    let f : IsFound plan order text priority id =
    subst (λ (o : Option EntryId). MatchOption o (NoneAsked (HasPriority text priority) plan order) (IsFound plan order text priority)) found
    (found_entry-least plan order text priority) in
    let same : f.entry ≡ entry = same_Some f.entry entry (sym f.least.stands.there ∙ there) in
    let e = earlier (λ number. list_any (shares_place entry) (entries_at plan number)) id.context order f.place f.least.stands.context
    ((both (has order id.context) (some_shares plan (before id.context order) entry) hidden).1) in
    let o = passing (shares_place entry) (entries_at plan e.number) e.passes in
    let other = o.element in
    let shared = both (same_name entry.name other.name) (entry.priority == other.priority) o.passes in
    let other_id : EntryId = record { context = e.number; entry = o.place } in
    let stands : entry_at plan other_id ≡ Some other = entry_by plan e.number o.place ∙ o.there in
    let name : entry.name ≡ other.name =
    one_meaning entry.name other.name (named_entry plan named id entry there) (named_entry plan named other_id other stands) shared.0 in
    f.least.least e.at other_id other (record { context = e.there; there = stands })
    (record {
      matching = subst (λ (n : Meaning). Matches n text) (ap (λ (x : Entry). x.name) same ∙ name) f.least.asked.matching;
      same = sym (eqb-true entry.priority other.priority shared.1) ∙ ap (λ (x : Entry). x.priority) (sym same) ∙ f.least.asked.same;
    })
    (ap (λ o. ordering_then o (name_cmp other.name f.entry.name)) (sym (nat_cmp_is e.at f.place Less e.below)))
