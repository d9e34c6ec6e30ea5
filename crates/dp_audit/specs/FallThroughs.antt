-- The entries after which a phone call goes on in another extension, such as `100` with two priorities and `_X.` with a third.
use Rattle.std.specs.Prelude.{◌≡◌, ℕ, ◌+◌, Bool, false, List, [], Option, None, Some, if◌then◌else◌}
use Rattle.std.specs.List.{flat_map, range_with_len}
use Rattle.std.specs.Option.{option_map, option_map_or, option_to_list}
use Rattle.dp_lookup.specs.Found.{IsFound}
use Rattle.dp_lookup.specs.FoundEntry.{entries_at, found_entry, passes}
use Rattle.dp_lookup.specs.SearchOrder.{context_count}
use Rattle.dp_pattern.specs.Name.{Meaning, Plain, Pattern}
use Rattle.dp_plan.specs.Extensions.{same_name}
use Rattle.dp_plan.specs.Lookup.{entry_at}
use Rattle.dp_plan.specs.Plan.{PlanOf}
use Rattle.dp_plan.specs.Ranking.{ids_of}
use Rattle.dp_plan.specs.declared.entry.Entry.{Entry}
use Rattle.dp_plan.specs.declared.entry.EntryId.{EntryId}
use Rattle.dp_audit.specs.Orders.{order_at}
use Rattle.dp_audit.specs.declared.fall_through.FallThrough.{FallThrough}

-- ---- in terms of a look-up

-- the entry has a plain name, and a call that dialled that name in the entry's context finds an entry of another name at the next priority
pub record FallsThrough (plan : PlanOf) (id next : EntryId) : Type 0 where
  pub text : List ℕ
  pub entry : Entry
  pub other : Entry
  pub here : entry_at plan id ≡ Some entry
  pub plain : entry.name ≡ Plain text
  pub found : IsFound plan (order_at plan id.context) text (entry.priority + 1) next
  pub there : entry_at plan next ≡ Some other
  pub another : same_name other.name entry.name ≡ false

-- ---- the list of these entries

-- the entry that a call meets at a priority after it dialled the plain name; a pattern is never dialled
abbrev pub entry_met : PlanOf → List ℕ → Meaning → ℕ → Option EntryId
entry_met plan order (Plain text) priority = found_entry plan order text priority
entry_met plan order (Pattern classes tail) priority = None

-- whether the entry with these numbers has a name with this meaning
abbrev pub has_name : PlanOf → Meaning → EntryId → Bool
has_name plan name id = passes plan (λ entry. same_name entry.name name) id

-- the entry, if there is one with another name
abbrev pub if_other : PlanOf → Meaning → Option EntryId → Option EntryId
if_other plan name None = None
if_other plan name (Some next) = if has_name plan name next then None else Some next

-- the entry of another name that a call meets after the entry with these numbers
abbrev pub next_of : PlanOf → EntryId → Entry → Option EntryId
next_of plan id entry = if_other plan entry.name (entry_met plan (order_at plan id.context) entry.name (entry.priority + 1))

abbrev pub fall_through : EntryId → EntryId → FallThrough
fall_through id next = record { entry = id; next = next }

-- the findings on the entry
abbrev pub of_entry : PlanOf → EntryId → Entry → List FallThrough
of_entry plan id entry = option_to_list (option_map (fall_through id) (next_of plan id entry))

-- the findings on the entry with these numbers; none if there is no such entry
abbrev pub of_id : PlanOf → EntryId → List FallThrough
of_id plan id = option_map_or (of_entry plan id) (entry_at plan id) []

-- the findings on the entries of the context with a number, in the order of the file
abbrev pub of_context : PlanOf → ℕ → List FallThrough
of_context plan number = flat_map (of_id plan) (ids_of number (entries_at plan number))

-- the findings on all contexts, in the order of the file
unfoldable pub fall_throughs_of : PlanOf → List FallThrough
fall_throughs_of plan = flat_map (of_context plan) (range_with_len 0 (context_count plan))
