-- The entries that may be found from the places of an area.
use Rattle.std.specs.Prelude.{◌≡◌, ℕ, true, List, Some}
use Rattle.std.specs.declared.cmp.Ordering.TheVariants.{Less}
use Rattle.dp_lookup.specs.SearchOrder.{has, search_order}
use Rattle.dp_pattern.specs.Matches.{Matches}
use Rattle.dp_pattern.specs.Order.{name_cmp}
use Rattle.dp_plan.specs.Lookup.{entry_at}
use Rattle.dp_plan.specs.Plan.{PlanOf}
use Rattle.dp_plan.specs.declared.entry.Entry.{Entry}
use Rattle.dp_plan.specs.declared.entry.EntryId.{EntryId}
use Rattle.dp_pieces.specs.Pieces.{Fits}
use Rattle.dp_reach.specs.Areas.{Area}

-- another entry of the same context and priority has a better name, which matches each extension of the area that the entry's matches
pub record IsHidden (plan : PlanOf) (area : Area) (id : EntryId) (entry : Entry) : Type 0 where
  pub other : EntryId
  pub better : Entry
  pub there : entry_at plan other ≡ Some better
  pub context : other.context ≡ id.context
  pub priority : better.priority ≡ entry.priority
  pub less : name_cmp better.name entry.name ≡ Less
  pub covers : (text : List ℕ) → Fits area.exten text → Matches entry.name text → Matches better.name text

-- an entry may be found from a place of the area: its context is searched there, an extension matches, and no other entry hides it
pub record MayFind (plan : PlanOf) (area : Area) (id : EntryId) (entry : Entry) : Type 0 where
  pub there : entry_at plan id ≡ Some entry
  pub context : List ℕ
  pub context_fits : Fits area.context context
  pub searched : has (search_order plan context) id.context ≡ true
  pub exten : List ℕ
  pub exten_fits : Fits area.exten exten
  pub matching : Matches entry.name exten
  pub shown : IsHidden plan area id entry → ⊥
