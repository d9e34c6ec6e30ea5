-- Places bounded by the greatest priority of their extension.
use Rattle.std.proofs.Common.{◌≡◌, ℕ, zero, suc, ◌+◌, ◌<◌, ◌≤◌, Bool, true, false, cond, ◌&&◌, ◌||◌, ◌==◌, List, [], ◌∷◌, ◌++◌, length, Some, slice_get, get_or, take, refl, ap, subst, ◌∙◌, sym, arith}
use Rattle.std.specs.List.{IsDistinct, list_any}
use Rattle.std.specs.Cmp.{IsEquivalence, nat_eq_equiv}
use Rattle.std.proofs.lemmas.Bool.{eqb-true}
use Rattle.std.proofs.lemmas.Cmp.{on_equiv}
use Rattle.std.proofs.lemmas.List.{take_more}
use Rattle.std.proofs.lemmas.Map.Keys.{IsDistinct-push}
use Rattle.std.proofs.lemmas.Option.{slice_get-get_or}
use Rattle.indexmap.specs.IndexSet.{insert_key}
use Rattle.dp_plan.specs.steps.Places.{same_slot, slots_in, AreBounded}
use Rattle.dp_plan.specs.declared.taken_places.Kept.{Kept}
use Rattle.dp_plan.specs.declared.taken_places.Slot.{Slot}
use Rattle.dp_plan.proofs.HistoryLemmas.{both_equiv}
use Rattle.dp_plan.proofs.PositionLemmas.{later_apart}

-- being the same place is an equivalence
pub same_slot_equiv : IsEquivalence same_slot
same_slot_equiv = both_equiv (on_equiv (λ (slot : Slot). slot.extension) nat_eq_equiv) (on_equiv (λ (slot : Slot). slot.priority) nat_eq_equiv)

-- ---- bounds

-- a place above the greatest priority of its extension differs from one that is not
apart_above : (greatest : List ℕ) (slot p : Slot) → p.priority ≤ get_or greatest p.extension 0 → get_or greatest slot.extension 0 < slot.priority → same_slot slot p ≡ false
apart_above greatest slot p bounded above = by (slot.extension == p.extension) refl (slot.priority == p.priority) refl where
  by : (s : Bool) → (slot.extension == p.extension) ≡ s → (t : Bool) → (slot.priority == p.priority) ≡ t → (s && t) ≡ false
  by true e true f =
      let extension = eqb-true slot.extension p.extension e in
      let priority = eqb-true slot.priority p.priority f in
      let below : p.priority ≤ get_or greatest slot.extension 0 = subst (λ n. p.priority ≤ get_or greatest n 0) (sym extension) bounded in
      absurd (omega (arith, below, above, priority))
  by true e false f = refl
  by false e t f = refl

-- so it is free
pub free_above : (greatest : List ℕ) (slot : Slot) (slots : List Slot) → AreBounded greatest slots → get_or greatest slot.extension 0 < slot.priority → list_any (same_slot slot) slots ≡ false
free_above greatest slot [] bounded above = refl
free_above greatest slot (p ∷ slots) bounded above =
    ap (λ t. t || list_any (same_slot slot) slots) (apart_above greatest slot p bounded.0 above) ∙ free_above greatest slot slots bounded.1 above

-- greater bounds are bounds
pub bounded_raised : (old new : List ℕ) (slots : List Slot) → AreBounded old slots → ((e : ℕ) → get_or old e 0 ≤ get_or new e 0) → AreBounded new slots
bounded_raised old new [] bounded rises = tt
bounded_raised old new (p ∷ slots) bounded rises = (omega (arith, bounded.0, rises p.extension), bounded_raised old new slots bounded.1 rises)

-- one more place below its bound
pub bounded_more : (greatest : List ℕ) (slots : List Slot) (slot : Slot) → AreBounded greatest slots → slot.priority ≤ get_or greatest slot.extension 0 → AreBounded greatest (slots ++ slot ∷ [])
bounded_more greatest [] slot bounded below = (below, tt)
bounded_more greatest (p ∷ slots) slot bounded below = (bounded.0, bounded_more greatest slots slot bounded.1 below)

-- ---- places that are different

-- without places all are bounded and different
pub none_taken : (greatest : List ℕ) (slots : List Slot) → slots ≡ [] → AreBounded greatest slots × IsDistinct same_slot slots
unfolding IsDistinct
none_taken greatest [] none = (tt, tt)
none_taken greatest (p ∷ slots) none = absurd cc

-- one more free place
pub distinct_more : (slots : List Slot) (slot : Slot) → IsDistinct same_slot slots → list_any (same_slot slot) slots ≡ false → IsDistinct same_slot (slots ++ slot ∷ [])
distinct_more slots slot distinct free = IsDistinct-push same_slot_equiv slots slot distinct free

-- a place differs from those before it
free_before : (slots : List Slot) (k : ℕ) (slot : Slot) → IsDistinct same_slot slots → slice_get slots k ≡ Some slot → list_any (same_slot slot) (take k slots) ≡ false
unfolding IsDistinct
free_before [] k slot distinct here = absurd cc
free_before (p ∷ slots) zero slot distinct here = refl
free_before (p ∷ slots) (suc k) slot distinct here =
    let apart = later_apart same_slot p slot slots k distinct.0 here in
    ap (λ t. t || list_any (same_slot slot) (take k slots)) (same_slot_equiv.symm slot p ∙ apart) ∙ free_before slots k slot distinct.1 here

-- it is added at the end of the table of those before it
pub table_step : (slots keys : List Slot) (k : ℕ) (d : Slot) → IsDistinct same_slot slots → keys ≡ take k slots → k < length slots → insert_key same_slot keys (get_or slots k d) ≡ take (k + 1) slots
table_step slots keys k d distinct front within =
    let slot = get_or slots k d in
    ap (λ (ks : List Slot). insert_key same_slot ks slot) front
    ∙ (ap (λ t. cond t (take k slots) (take k slots ++ slot ∷ [])) (free_before slots k slot distinct (slice_get-get_or slots k d within))
    ∙ sym (take_more slots k d within))

-- a free place is added at the end of the table
pub inserted_free : (kept : Kept) (table : List Slot) (slot : Slot) → list_any (same_slot slot) (slots_in kept) ≡ false → slots_in kept ≡ table → insert_key same_slot table slot ≡ slots_in kept ++ slot ∷ []
inserted_free kept table slot free same =
    ap (λ (keys : List Slot). insert_key same_slot keys slot) (sym same)
    ∙ ap (λ t. cond t (slots_in kept) (slots_in kept ++ slot ∷ [])) free
