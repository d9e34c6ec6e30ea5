-- The entries that a look-up finds.
use Rattle.std.specs.Prelude.{◌≡◌, ◌≢◌, ℕ, ◌≤◌, List, slice_get, Some}
use Rattle.std.specs.Ordering.{ordering_then, nat_cmp}
use Rattle.std.specs.declared.cmp.Ordering.{Ordering}
use Rattle.std.specs.declared.cmp.Ordering.TheVariants.{Less, Equal}
use Rattle.dp_pattern.specs.GoesOn.{GoesOn}
use Rattle.dp_pattern.specs.Matches.{Matches}
use Rattle.dp_pattern.specs.Order.{name_cmp}
use Rattle.dp_plan.specs.Lookup.{entry_at}
use Rattle.dp_plan.specs.Plan.{PlanOf}
use Rattle.dp_plan.specs.declared.entry.Entry.{Entry}
use Rattle.dp_plan.specs.declared.entry.EntryId.{EntryId}

-- the entry matches the text and has the priority
pub record HasPriority (text : List ℕ) (priority : ℕ) (entry : Entry) : Type 0 where
  pub matching : Matches entry.name text
  pub same : entry.priority ≡ priority

-- the entry matches the text and has the label
pub record HasLabel (text label : List ℕ) (entry : Entry) : Type 0 where
  pub matching : Matches entry.name text
  pub same : entry.label ≡ Some label

-- the entry has priority 1, and its name goes on from the text
pub record BeginsLater (text : List ℕ) (entry : Entry) : Type 0 where
  pub going_on : GoesOn entry.name text
  pub first : entry.priority ≡ 1

-- the entry with these numbers is in the context at that place of the order
pub record StandsAt (plan : PlanOf) (order : List ℕ) (place : ℕ) (id : EntryId) (entry : Entry) : Type 0 where
  pub context : slice_get order place ≡ Some id.context
  pub there : entry_at plan id ≡ Some entry

-- the order of entries at places: by the places, and at the same place by the names
abbrev pub found_cmp : ℕ → Entry → ℕ → Entry → Ordering
found_cmp i a j b = ordering_then (nat_cmp i j) (name_cmp a.name b.name)

-- the entry is a wanted one, and no wanted one is less
pub record IsLeast (Asked : Entry → Type 0) (plan : PlanOf) (order : List ℕ) (place : ℕ) (id : EntryId) (entry : Entry) : Type 0 where
  pub stands : StandsAt plan order place id entry
  pub asked : Asked entry
  pub least : (i : ℕ) (other : EntryId) (a : Entry) → StandsAt plan order i other a → Asked a → found_cmp i a place entry ≢ Less

-- no entry is a wanted one
abbrev pub NoneAsked : (Entry → Type 0) → PlanOf → List ℕ → Type 0
NoneAsked Asked plan order = (place : ℕ) (id : EntryId) (entry : Entry) → StandsAt plan order place id entry → Asked entry → ⊥

-- the entry with these numbers is found: the least of those that match the text and have the priority
pub record IsFound (plan : PlanOf) (order text : List ℕ) (priority : ℕ) (id : EntryId) : Type 0 where
  pub place : ℕ
  pub entry : Entry
  pub least : IsLeast (HasPriority text priority) plan order place id entry

-- some entry is found
pub record SomeFound (plan : PlanOf) (order text : List ℕ) (priority : ℕ) : Type 0 where
  pub id : EntryId
  pub found : IsFound plan order text priority id

-- the priority is that of the least entry that matches the text and has the label; of several with the same name, it is the lowest
pub record IsFoundLabel (plan : PlanOf) (order text label : List ℕ) (priority : ℕ) : Type 0 where
  pub place : ℕ
  pub id : EntryId
  pub entry : Entry
  pub least : IsLeast (HasLabel text label) plan order place id entry
  pub lowest : (other : EntryId) (a : Entry) → StandsAt plan order place other a → HasLabel text label a → name_cmp a.name entry.name ≡ Equal → entry.priority ≤ a.priority
  pub same : priority ≡ entry.priority

-- some entry of priority 1 has a name that goes on from the text
pub record SomeGoesOn (plan : PlanOf) (order text : List ℕ) : Type 0 where
  pub place : ℕ
  pub id : EntryId
  pub entry : Entry
  pub stands : StandsAt plan order place id entry
  pub later : BeginsLater text entry
