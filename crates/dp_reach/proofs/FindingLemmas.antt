-- An entry that is found at a place of an area may be found from the area, and the place agrees with what is known of its match.
use Rattle.std.proofs.Common.{◌≡◌, ℕ, zero, suc, true, ◌==◌, List, [], ◌∷◌, Option, Some, None, MatchOption, slice_get, eq-eqb, refl, sym, ap, ◌∙◌, subst, nat_cmp, Less, Equal}
use Rattle.std.specs.Cmp.{nat_cmp_is}
use Rattle.std.specs.Option.{option_and_then, option_map}
use Rattle.std.specs.Ordering.{ordering_then}
use Rattle.dp_lookup.proofs.FoundLemmas.{found_entry-least}
use Rattle.dp_lookup.specs.Found.{HasPriority, IsFound, IsLeast, NoneAsked}
use Rattle.dp_lookup.specs.FoundEntry.{found_entry}
use Rattle.dp_lookup.specs.SearchOrder.{has, search_order}
use Rattle.dp_pattern.specs.Matches.{Matches}
use Rattle.dp_pattern.specs.Order.{name_cmp}
use Rattle.dp_plan.specs.Lookup.{entry_at}
use Rattle.dp_plan.specs.Plan.{PlanOf}
use Rattle.dp_plan.specs.declared.entry.Entry.{Entry}
use Rattle.dp_plan.specs.declared.entry.EntryId.{EntryId}
use Rattle.dp_app.specs.declared.place.Place.{Place}
use Rattle.dp_machine.specs.Found.{Located, entry_found, located_entry}
use Rattle.dp_pieces.proofs.MetLemmas.{fits-after_match}
use Rattle.dp_pieces.proofs.WithinLemmas.{either-left, either-right}
use Rattle.dp_reach.specs.Areas.{Area, IsIn, area_matched}
use Rattle.dp_reach.specs.Finding.{MayFind}

-- the contexts in a search order are searched
has-at : (order : List ℕ) (place number : ℕ) → slice_get order place ≡ Some number → has order number ≡ true
has-at [] place number is = absurd cc
has-at (c ∷ order) zero number is =
    let same : c ≡ number = cc in either-left (c == number) (has order number) (eq-eqb c number same)
has-at (c ∷ order) (suc place) number is = either-right (c == number) (has order number) (has-at order place number is)

-- a number is equal to itself
nat_cmp-same : (n : ℕ) → nat_cmp n n ≡ Equal
nat_cmp-same n = sym (nat_cmp_is n n Equal refl)

-- the entry that is found at a place is the first of its context that matches there
record IsFoundAt (plan : PlanOf) (place : Place) (found : Located) : Type 0 where
  there : entry_at plan found.id ≡ Some found.entry
  searched : has (search_order plan place.context) found.id.context ≡ true
  matching : Matches found.entry.name place.exten
  first : (other : EntryId) (better : Entry) → entry_at plan other ≡ Some better → other.context ≡ found.id.context → better.priority ≡ found.entry.priority
      → Matches better.name place.exten → name_cmp better.name found.entry.name ≡ Less → ⊥

found-least : (plan : PlanOf) (place : Place) (id : EntryId) (entry : Entry) (at : ℕ) → entry_at plan id ≡ Some entry
    → IsLeast (HasPriority place.exten place.priority) plan (search_order plan place.context) at id entry → IsFoundAt plan place (record { id = id; entry = entry })
found-least plan place id entry at there least = record {
  there = there;
  searched = has-at (search_order plan place.context) at id.context least.stands.context;
  matching = least.asked.matching;
  first = λ other better stands context priority matching less.
      least.least at other better (record { context = least.stands.context ∙ ap (λ c. Some c) (sym context); there = stands })
      (record { matching = matching; same = priority ∙ least.asked.same })
      (ap (λ o. ordering_then o (name_cmp better.name entry.name)) (nat_cmp-same at) ∙ less);
}

found-at : (plan : PlanOf) (place : Place) (found : Located) → entry_found plan place ≡ Some found → IsFoundAt plan place found
unfolding entry_found
found-at plan place found is =
    by (found_entry plan (search_order plan place.context) place.exten place.priority)
    (found_entry-least plan (search_order plan place.context) place.exten place.priority) is
  where
    at : (id : EntryId) (o : Option Entry) → entry_at plan id ≡ o → option_map (λ entry. record { id = id; entry = entry }) o ≡ Some found
        → IsFound plan (search_order plan place.context) place.exten place.priority id → IsFoundAt plan place found
    at id None from same first = absurd cc
    at id (Some entry) from same first =
        let one : (let l : Located = record { id = id; entry = entry } in l ≡ found) = cc in
        let entry_is : first.entry ≡ entry = let e : Some first.entry ≡ Some entry = sym first.least.stands.there ∙ from in let f : first.entry ≡ entry = cc in f in
        subst (λ (l : Located). IsFoundAt plan place l) one
        (found-least plan place id entry first.place from
        (subst (λ (e : Entry). IsLeast (HasPriority place.exten place.priority) plan (search_order plan place.context) first.place id e) entry_is first.least))

    by : (o : Option EntryId)
        → MatchOption o (NoneAsked (HasPriority place.exten place.priority) plan (search_order plan place.context)) (IsFound plan (search_order plan place.context) place.exten place.priority)
        → option_and_then (located_entry plan) o ≡ Some found → IsFoundAt plan place found
    by None none same = absurd cc
    by (Some id) first same = at id (entry_at plan id) refl same first

-- the entry that is found at a place of an area may be found from it
pub may-find : (plan : PlanOf) (area : Area) (place : Place) (found : Located) → IsIn area place → entry_found plan place ≡ Some found → MayFind plan area found.id found.entry
may-find plan area place found inside is =
    let at = found-at plan place found is in
    record {
      there = at.there;
      context = place.context;
      context_fits = inside.context;
      searched = at.searched;
      exten = place.exten;
      exten_fits = inside.exten;
      matching = at.matching;
      shown = λ hidden. at.first hidden.other hidden.better hidden.there hidden.context hidden.priority (hidden.covers place.exten inside.exten at.matching) hidden.less;
    }

-- and what is known of its match is true of the place
pub in-matched : (plan : PlanOf) (area : Area) (place : Place) (found : Located) → IsIn area place → entry_found plan place ≡ Some found
    → IsIn (area_matched area found.entry.name) place
in-matched plan area place found inside is =
    record { context = inside.context; exten = fits-after_match area.exten found.entry.name place.exten inside.exten (found-at plan place found is).matching }
