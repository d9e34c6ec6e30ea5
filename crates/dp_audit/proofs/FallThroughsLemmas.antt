-- The list of entries has each entry after which a call goes on in another extension.
use Rattle.std.proofs.Common.{◌≡◌, ℕ, zero, suc, ◌+◌, ◌<◌, Bool, true, false, List, [], ◌∷◌, length, map, slice_get, Option, Some, None, MatchOption, if◌then◌else◌, ◌⊎◌, inl, inr, ◌↔◌, arith, refl, sym, ap, subst, ◌∙◌}
use Rattle.std.specs.Prelude.{All, Contains}
use Rattle.std.specs.List.{flat_map, range_with_len}
use Rattle.std.specs.Option.{option_and_then, option_map, option_map_or, option_to_list}
use Rattle.std.proofs.lemmas.List.Elements.{Contains-append_left, Contains-append_right, Contains-append_cases}
use Rattle.std.proofs.lemmas.List.FromFn.{get_or-map-range_with_len, length-map-range_with_len, get_or-range_with_len}
use Rattle.std.proofs.lemmas.Option.{none-some, same_Some, slice_get_within}
use Rattle.dp_lookup.specs.Found.{IsFound, NoneAsked, HasPriority}
use Rattle.dp_lookup.specs.FoundEntry.{entries_at, found_entry}
use Rattle.dp_lookup.specs.SearchOrder.{context_count}
use Rattle.dp_lookup.proofs.FoundLemmas.{found_entry-least, found_once}
use Rattle.dp_pattern.specs.Name.{Meaning, Plain, Pattern}
use Rattle.dp_plan.specs.Contexts.{PlanContext}
use Rattle.dp_plan.specs.Extensions.{same_name}
use Rattle.dp_plan.specs.Lookup.{entry_at}
use Rattle.dp_plan.specs.Plan.{PlanOf}
use Rattle.dp_plan.specs.Ranking.{AreApart, ids_of}
use Rattle.dp_plan.specs.declared.entry.Entry.{Entry}
use Rattle.dp_plan.specs.declared.entry.EntryId.{EntryId}
use Rattle.dp_audit.specs.FallThroughs.{FallsThrough, fall_through, fall_throughs_of, has_name, if_other, entry_met, next_of, of_context, of_entry, of_id}
use Rattle.dp_audit.specs.Orders.{order_at}
use Rattle.dp_audit.specs.declared.fall_through.FallThrough.{FallThrough}
use Rattle.dp_audit.proofs.HidingLemmas.{entry_by}

-- ---- elements of joined lists

module _ {X : Type 0} where
  -- an element is the first, or one of the others
  pub element_cases : (y : X) (ys : List X) (x : X) → Contains (y ∷ ys) x → (y ≡ x) ⊎ Contains ys x
  element_cases y ys x (zero, below, is) = inl is
  element_cases y ys x (suc k, below, is) = inr (k, omega arith, is)

  pub nothing_there : (x : X) → Contains [] x → ⊥
  nothing_there x (k, below, is) = omega arith

-- one of the elements, and what its list has
pub record Piece {X A : Type 0} (f : X → List A) (xs : List X) (a : A) : Type 0 where
  pub x : X
  pub among : Contains xs x
  pub of : Contains (f x) a

module _ {X A : Type 0} (f : X → List A) where
  pub element_in : (xs : List X) (x : X) (a : A) → Contains xs x → Contains (f x) a → Contains (flat_map f xs) a
  element_in [] x a among of = absurd (nothing_there x among)
  element_in (y ∷ ys) x a among of = elim (element_cases y ys x among) [
    | inl same ↦ Contains-append_left (f y) (flat_map f ys) a (subst (λ (z : X). Contains (f z) a) (sym same) of)
    | inr later ↦ Contains-append_right (f y) (flat_map f ys) a (element_in ys x a later of)
  ]

  later_piece : (y : X) (ys : List X) (a : A) → Piece f ys a → Piece f (y ∷ ys) a
  later_piece y ys a piece = record { x = piece.x; among = Contains-append_right (y ∷ []) ys piece.x piece.among; of = piece.of }

  pub piece_of : (xs : List X) (a : A) → Contains (flat_map f xs) a → Piece f xs a
  piece_of [] a there = absurd (nothing_there a there)
  piece_of (y ∷ ys) a there = elim (Contains-append_cases (f y) (flat_map f ys) a there) [
    | inl first ↦ record { x = y; among = (0, omega arith, refl); of = first }
    | inr later ↦ later_piece y ys a (piece_of ys a later)
  ]

-- ---- the numbers of contexts and entries

number_among : (count number : ℕ) → number < count → Contains (range_with_len 0 count) number
number_among count number below =
    (number, rw length_range below, get_or-range_with_len 0 count number number below ∙ omega arith)
  where
    length_range : length (range_with_len 0 count) ≡ count
    length_range = ap length (sym (same_list (range_with_len 0 count))) ∙ length-map-range_with_len (λ k. k) 0 count
      where
        same_list : (xs : List ℕ) → map (λ k. k) xs ≡ xs
        same_list [] = refl
        same_list (x ∷ xs) = ap (λ ys. x ∷ ys) (same_list xs)

id_among : (number : ℕ) (entries : List Entry) (k : ℕ) → k < length entries → Contains (ids_of number entries) (record { context = number; entry = k })
id_among number entries k below =
    let f : ℕ → EntryId = λ j. record { context = number; entry = j } in
    (k, rw (length-map-range_with_len f 0 (length entries)) below, get_or-map-range_with_len f 0 (length entries) k k (f k) below (omega arith))

-- ---- the finding on one entry

option_element : {X : Type 0} (o : Option X) (x : X) → Contains (option_to_list o) x → o ≡ Some x
option_element None x there = absurd (nothing_there x there)
option_element (Some y) x there = elim (element_cases y [] x there) [
  | inl same ↦ ap Some same
  | inr later ↦ absurd (nothing_there x later)
]

option_there : {X : Type 0} (o : Option X) (x : X) → o ≡ Some x → Contains (option_to_list o) x
option_there None x is = absurd (none-some x is)
option_there (Some y) x is = (0, omega arith, same_Some y x is)

-- a finding has the entry with the one after it
told_as : (id other next : EntryId) (o : Option EntryId) → option_map (fall_through other) o ≡ Some (fall_through id next) → (other ≡ id) × (o ≡ Some next)
told_as id other next None is = absurd (none-some (fall_through id next) is)
told_as id other next (Some after) is =
    let same = same_Some (fall_through other after) (fall_through id next) is in
    (ap (λ (told : FallThrough). told.entry) same, ap Some (ap (λ (told : FallThrough). told.next) same))

-- the entry with a number and another name
record Other (plan : PlanOf) (name : Meaning) (o : Option EntryId) (next : EntryId) : Type 0 where
  found : o ≡ Some next
  other : has_name plan name next ≡ false

other_of : (plan : PlanOf) (name : Meaning) (o : Option EntryId) (next : EntryId) → if_other plan name o ≡ Some next → Other plan name o next
other_of plan name None next is = absurd (none-some next is)
other_of plan name (Some found) next is = by (has_name plan name found) refl is
  where
    by : (b : Bool) → has_name plan name found ≡ b → (if b then None else Some found) ≡ Some next → Other plan name (Some found) next
    by true has is = absurd (none-some next is)
    by false lacks is =
        let same = same_Some found next is in
        record { found = is; other = subst (λ (id : EntryId). has_name plan name id ≡ false) same lacks }

other_there : (plan : PlanOf) (name : Meaning) (o : Option EntryId) (next : EntryId) → o ≡ Some next → has_name plan name next ≡ false → if_other plan name o ≡ Some next
other_there plan name o next is lacks =
    ap (if_other plan name) is ∙ ap (λ (b : Bool). if b then None else Some next) lacks

-- ---- the list and the look-up

-- a plain name that was dialled, and the entry that a look-up then finds
record Dialled (plan : PlanOf) (order : List ℕ) (name : Meaning) (priority : ℕ) (next : EntryId) : Type 0 where
  text : List ℕ
  plain : name ≡ Plain text
  found : found_entry plan order text priority ≡ Some next

met_is_dialled : (plan : PlanOf) (order : List ℕ) (name : Meaning) (priority : ℕ) (next : EntryId) → entry_met plan order name priority ≡ Some next → Dialled plan order name priority next
met_is_dialled plan order (Plain text) priority next is = record { text = text; plain = refl; found = is }
met_is_dialled plan order (Pattern classes tail) priority next is = absurd (none-some next is)

-- the entry that is found is the one that a look-up finds
as_found : (plan : PlanOf) (order text : List ℕ) (priority : ℕ) (next : EntryId) → found_entry plan order text priority ≡ Some next → IsFound plan order text priority next
as_found plan order text priority next is =
    subst (λ (o : Option EntryId). MatchOption o (NoneAsked (HasPriority text priority) plan order) (IsFound plan order text priority)) is (found_entry-least plan order text priority)

module _ (plan : PlanOf) (apart : All (λ (context : PlanContext). AreApart context.entries) plan.contexts) where
  found_as : (order text : List ℕ) (priority : ℕ) (next : EntryId) → IsFound plan order text priority next → found_entry plan order text priority ≡ Some next
  found_as order text priority next found = by (found_entry plan order text priority) (found_entry-least plan order text priority)
    where
      by : (o : Option EntryId) → MatchOption o (NoneAsked (HasPriority text priority) plan order) (IsFound plan order text priority) → o ≡ Some next
      by None none = absurd (none found.place next found.entry found.least.stands found.least.asked)
      by (Some other) is = ap Some (found_once plan order text priority apart other next is found)

-- the entry at the numbers that a look-up finds
there_as : (plan : PlanOf) (name : Meaning) (next : EntryId) (entry : Entry) → entry_at plan next ≡ Some entry → has_name plan name next ≡ same_name entry.name name
there_as plan name next entry there = ap (λ (o : Option Entry). option_map_or (λ entry. same_name entry.name name) o false) there

-- the entry after this one, given the look-up
falls_by : (plan : PlanOf) (id next : EntryId) (entry : Entry) → entry_at plan id ≡ Some entry → next_of plan id entry ≡ Some next → FallsThrough plan id next
falls_by plan id next entry here is =
    let other = other_of plan entry.name (entry_met plan (order_at plan id.context) entry.name (entry.priority + 1)) next is in
    let plain = met_is_dialled plan (order_at plan id.context) entry.name (entry.priority + 1) next other.found in
    let found = as_found plan (order_at plan id.context) plain.text (entry.priority + 1) next plain.found in
    record {
      text = plain.text;
      entry = entry;
      other = found.entry;
      here = here;
      plain = plain.plain;
      found = found;
      there = found.least.stands.there;
      another = sym (there_as plan entry.name next found.entry found.least.stands.there) ∙ other.other;
    }

-- the finding on the entry with these numbers
falls_of : (plan : PlanOf) (other id next : EntryId) (o : Option Entry) → entry_at plan other ≡ o
    → Contains (option_map_or (of_entry plan other) o []) (fall_through id next) → FallsThrough plan id next
falls_of plan other id next None is told = absurd (nothing_there (fall_through id next) told)
falls_of plan other id next (Some entry) is told =
    let element = option_element (option_map (fall_through other) (next_of plan other entry)) (fall_through id next) told in
    let parts = told_as id other next (next_of plan other entry) element in
    subst (λ (same : EntryId). FallsThrough plan same next) parts.0 (falls_by plan other next entry is parts.1)

-- an entry that is reported falls through
told_falls : (plan : PlanOf) (id next : EntryId) → Contains (fall_throughs_of plan) (fall_through id next) → FallsThrough plan id next
unfolding fall_throughs_of
told_falls plan id next told =
    let context = piece_of (of_context plan) (range_with_len 0 (context_count plan)) (fall_through id next) told in
    let one = piece_of (of_id plan) (ids_of context.x (entries_at plan context.x)) (fall_through id next) context.of in
    falls_of plan one.x id next (entry_at plan one.x) refl one.of

-- there is such an entry
pub record Entered (plan : PlanOf) (id : EntryId) : Type 0 where
  pub entry : Entry
  pub there : entry_at plan id ≡ Some entry

-- an entry is one of a context
pub context_there : (plan : PlanOf) (id : EntryId) (entry : Entry) → entry_at plan id ≡ Some entry → id.context < context_count plan
context_there plan id entry there = by (slice_get plan.contexts id.context) refl there
  where
    by : (o : Option PlanContext) → slice_get plan.contexts id.context ≡ o → option_and_then (λ (context : PlanContext). slice_get context.entries id.entry) o ≡ Some entry → id.context < context_count plan
    by None is here = absurd (none-some entry here)
    by (Some context) is here = slice_get_within plan.contexts id.context context is

-- a finding on an entry is reported
pub id_told : {X : Type 0} (plan : PlanOf) (f : EntryId → List X) (id : EntryId) → Entered plan id → (x : X) → Contains (f id) x
    → Contains (flat_map (λ number. flat_map f (ids_of number (entries_at plan number))) (range_with_len 0 (context_count plan))) x
id_told plan f id entered x told =
    let below = slice_get_within (entries_at plan id.context) id.entry entered.entry (sym (entry_by plan id.context id.entry) ∙ entered.there) in
    element_in (λ (number : ℕ). flat_map f (ids_of number (entries_at plan number))) (range_with_len 0 (context_count plan)) id.context x
    (number_among (context_count plan) id.context (context_there plan id entered.entry entered.there))
    (element_in f (ids_of id.context (entries_at plan id.context)) id x (id_among id.context (entries_at plan id.context) id.entry below) told)

-- an entry that falls through is reported
module _ (plan : PlanOf) (apart : All (λ (context : PlanContext). AreApart context.entries) plan.contexts) (id next : EntryId) (falls : FallsThrough plan id next) where
  follows : next_of plan id falls.entry ≡ Some next
  follows = other_there plan falls.entry.name (entry_met plan (order_at plan id.context) falls.entry.name (falls.entry.priority + 1)) next
      (ap (λ (name : Meaning). entry_met plan (order_at plan id.context) name (falls.entry.priority + 1)) falls.plain
      ∙ found_as plan apart (order_at plan id.context) falls.text (falls.entry.priority + 1) next falls.found)
      (there_as plan falls.entry.name next falls.other falls.there ∙ falls.another)

  told_of_id : Contains (of_id plan id) (fall_through id next)
  told_of_id =
      subst (λ (o : Option Entry). Contains (option_map_or (of_entry plan id) o []) (fall_through id next)) (sym falls.here)
      (option_there (option_map (fall_through id) (next_of plan id falls.entry)) (fall_through id next) (ap (option_map (fall_through id)) follows))

  falls_told : Contains (fall_throughs_of plan) (fall_through id next)
  unfolding fall_throughs_of
  falls_told = id_told plan (of_id plan) id (record { entry = falls.entry; there = falls.here }) (fall_through id next) told_of_id

-- the list has each entry after which a call goes on in another extension, and no other
pub told_exactly : (plan : PlanOf) → All (λ (context : PlanContext). AreApart context.entries) plan.contexts → (id next : EntryId)
    → Contains (fall_throughs_of plan) (fall_through id next) ↔ FallsThrough plan id next
told_exactly plan apart id next = (told_falls plan id next, falls_told plan apart id next)
