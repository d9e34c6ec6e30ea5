-- What is known of the entry that a look-up finds, given by its numbers.
use Rattle.std.proofs.Common.{◌≡◌, ◌≤◌, ℕ, Option, Some, None, MatchOption, IsSome, refl, sym, ap, subst, ◌∙◌}
use Rattle.std.proofs.lemmas.Option.{none-some, same_Some}
use Rattle.std.specs.Option.{option_and_then, option_map}
use Rattle.dp_lookup.specs.Found.{HasPriority, NoneAsked, IsFound}
use Rattle.dp_lookup.specs.SearchOrder.{search_order}
use Rattle.dp_lookup.proofs.FoundLemmas.{found_entry-least}
use Rattle.dp_plan.specs.Lookup.{entry_at}
use Rattle.dp_plan.specs.Plan.{PlanOf}
use Rattle.dp_plan.specs.Priority.{IsPriority}
use Rattle.dp_conf.specs.Numbers.{most_priority}
use Rattle.dp_plan.specs.declared.entry.Entry.{Entry}
use Rattle.dp_plan.specs.declared.entry.EntryId.{EntryId}
use Rattle.dp_app.specs.declared.phase.Phase.{Phase}
use Rattle.dp_app.specs.declared.phase.Phase.TheVariants.{Ready, Digits, Pause, Queued, Talking, Dialling, Ended}
use Rattle.dp_app.specs.declared.place.Place.{Place}
use Rattle.dp_machine.specs.Events.{located_in, next_in}
use Rattle.dp_machine.specs.Found.{Located, entry_found, id_at, id_found, located_entry}
use Rattle.dp_machine.specs.declared.channel.Channel.{Channel}

-- it is the least of those that the look-up is for
least_at : (plan : PlanOf) (place : Place) (id : EntryId) → id_at plan place ≡ Some id
    → IsFound plan (search_order plan place.context) place.exten place.priority id
unfolding id_found
least_at plan place id found =
    subst (λ (o : Option EntryId). MatchOption o (NoneAsked (HasPriority place.exten place.priority) plan (search_order plan place.context))
    (IsFound plan (search_order plan place.context) place.exten place.priority)) found
    (found_entry-least plan (search_order plan place.context) place.exten place.priority)

-- it is in the dialplan
pub stands_there : (plan : PlanOf) (place : Place) (id : EntryId) → id_at plan place ≡ Some id → IsSome (entry_at plan id)
stands_there plan place id found = subst IsSome (sym (least_at plan place id found).least.stands.there) refl

-- it has the priority of the look-up
has_priority : (plan : PlanOf) (place : Place) (id : EntryId) (entry : Entry) → id_at plan place ≡ Some id → Some entry ≡ entry_at plan id
    → entry.priority ≡ place.priority
has_priority plan place id entry found there =
    let least : IsFound plan (search_order plan place.context) place.exten place.priority id = least_at plan place id found in
    ap (λ (e : Entry). e.priority) (same_Some entry least.entry (there ∙ least.least.stands.there)) ∙ least.least.asked.same

-- so the place is at a priority of an entry
pub within_most : (plan : PlanOf) (place : Place) (id : EntryId) (entry : Entry) → id_at plan place ≡ Some id → Some entry ≡ entry_at plan id
    → IsPriority entry.priority → place.priority ≤ most_priority
within_most plan place id entry found there range =
    subst (λ (p : ℕ). p ≤ most_priority) (has_priority plan place id entry found there) range.1

-- it is the entry at the place
pub found_there : (plan : PlanOf) (place : Place) (id : EntryId) (entry : Entry) → id_at plan place ≡ Some id → Some entry ≡ entry_at plan id
    → entry_found plan place ≡ Some (record { id = id; entry = entry })
unfolding entry_found id_found
found_there plan place id entry found there =
    ap (option_and_then (located_entry plan)) found ∙ ap (option_map (λ (e : Entry). record { id = id; entry = e })) (sym there)

-- without numbers there is no entry
pub not_found : (plan : PlanOf) (place : Place) → id_at plan place ≡ None → entry_found plan place ≡ None
unfolding entry_found id_found
not_found plan place none = ap (option_and_then (located_entry plan)) none

-- the numbers of the entry at a place
pub located_id : (plan : PlanOf) (place : Place) → option_map (λ (found : Located). found.id) (entry_found plan place) ≡ id_at plan place
located_id plan place = by (id_at plan place) refl
  where
    by : (o : Option EntryId) → id_at plan place ≡ o → option_map (λ (found : Located). found.id) (entry_found plan place) ≡ id_at plan place
    by None none = ap (option_map (λ (found : Located). found.id)) (not_found plan place none) ∙ sym none
    by (Some id) found =
        let least : IsFound plan (search_order plan place.context) place.exten place.priority id = least_at plan place id found in
        ap (option_map (λ (found : Located). found.id)) (found_there plan place id least.entry found (sym least.least.stands.there)) ∙ sym found

-- the entry that the next step of a channel would run is in the dialplan
pub ahead_stands : (p : Phase) (plan : PlanOf) (c : Channel) (id : EntryId) → Some id ≡ next_in p plan c → IsSome (entry_at plan id)
ahead_stands Ready plan c id is = stands_there plan c.place id (sym (located_id plan c.place) ∙ sym is)
ahead_stands (Digits text is_background) plan c id is = absurd (none-some id (sym is))
ahead_stands Pause plan c id is = absurd (none-some id (sym is))
ahead_stands (Queued queue goes_on has_timer) plan c id is = absurd (none-some id (sym is))
ahead_stands (Talking queue agent goes_on) plan c id is = absurd (none-some id (sym is))
ahead_stands (Dialling goes_on has_timer) plan c id is = absurd (none-some id (sym is))
ahead_stands Ended plan c id is = absurd (none-some id (sym is))

-- it is the entry at the channel's place
pub ahead_located : (p : Phase) (plan : PlanOf) (c : Channel) (id : EntryId) (entry : Entry) → Some id ≡ next_in p plan c → Some entry ≡ entry_at plan id
    → located_in p plan c ≡ Some (record { id = id; entry = entry })
ahead_located Ready plan c id entry is there = found_there plan c.place id entry (sym (located_id plan c.place) ∙ sym is) there
ahead_located (Digits text is_background) plan c id entry is there = absurd (none-some id (sym is))
ahead_located Pause plan c id entry is there = absurd (none-some id (sym is))
ahead_located (Queued queue goes_on has_timer) plan c id entry is there = absurd (none-some id (sym is))
ahead_located (Talking queue agent goes_on) plan c id entry is there = absurd (none-some id (sym is))
ahead_located (Dialling goes_on has_timer) plan c id entry is there = absurd (none-some id (sym is))
ahead_located Ended plan c id entry is there = absurd (none-some id (sym is))

-- and without such an entry, there is no entry at the place
pub ahead_none : (p : Phase) (plan : PlanOf) (c : Channel) → None ≡ next_in p plan c → located_in p plan c ≡ None
ahead_none Ready plan c is = not_found plan c.place (sym (located_id plan c.place) ∙ sym is)
ahead_none (Digits text is_background) plan c is = refl
ahead_none Pause plan c is = refl
ahead_none (Queued queue goes_on has_timer) plan c is = refl
ahead_none (Talking queue agent goes_on) plan c is = refl
ahead_none (Dialling goes_on has_timer) plan c is = refl
ahead_none Ended plan c is = refl
