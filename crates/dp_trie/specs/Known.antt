-- The data that a trie keeps of a dialplan's entries: everything that a look-up reads besides its search order.
use Rattle.std.specs.Prelude.{◌≡◌, ℕ, ◌+◌, ◌≤◌, Bool, List, [], ◌∷◌, Option, None, Some, length, map, slice_get, sum_by, find}
use Rattle.std.specs.List.{AllByRecursion}
use Rattle.std.specs.Option.{option_map, option_map_or, option_or}
use Rattle.dp_pattern.specs.Name.{Meaning, Plain, Pattern}
use Rattle.dp_plan.specs.Lookup.{entry_at, IsRankedAt}
use Rattle.dp_plan.specs.Plan.{PlanOf}
use Rattle.dp_plan.specs.declared.entry.Entry.{Entry}
use Rattle.dp_plan.specs.declared.entry.EntryId.{EntryId}

-- an entry: the meaning of its name, its priority, its label, and its numbers in the dialplan
pub record Known : Type 0 where
  pub name : Meaning
  pub priority : ℕ
  pub label : Option (List ℕ)
  pub id : EntryId

-- the data kept of a context: its entries in the order in which a look-up tries them, and the number of nodes of its tree
pub record KeptContext : Type 0 where
  pub entries : List Known
  pub size : ℕ

-- the data kept of an entry
abbrev pub known_of : EntryId → Entry → Known
known_of id entry = record { name = entry.name; priority = entry.priority; label = entry.label; id = id }

-- the data kept of the entry with these numbers
abbrev pub known_at : PlanOf → EntryId → Option Known
known_at plan id = option_map (known_of id) (entry_at plan id)

-- the entries of the context with a number, ranked
pub record KeepsEntries (plan : PlanOf) (number : ℕ) (entries : List Known) : Type 0 where
  pub ranked : IsRankedAt plan number (map (λ known. known.id) entries)
  pub each : AllByRecursion (λ known. known_at plan known.id ≡ Some known) entries

-- the data that a look-up reads of the dialplan
pub record Keeps (plan : PlanOf) (kept : List KeptContext) : Type 0 where
  pub count : length kept ≡ length plan.contexts
  pub each : (number : ℕ) (context : KeptContext) → slice_get kept number ≡ Some context → KeepsEntries plan number context.entries

-- the number of classes of a pattern; a plain name has none
abbrev pub class_count : Meaning → ℕ
class_count (Plain text) = 0
class_count (Pattern classes tail) = length classes

-- the greatest number of nodes that an entry can add to a tree
abbrev pub most_added : Meaning → ℕ
most_added (Plain text) = 0
most_added (Pattern classes tail) = length classes + 1

-- the greatest number of nodes that a tree of these entries can have
abbrev pub most_nodes : List Known → ℕ
most_nodes entries = 1 + sum_by (λ known. most_added known.name) entries

-- the number of nodes of the tree of the context with a number; 0 if there is no such context
abbrev pub nodes_at : List KeptContext → ℕ → ℕ
nodes_at kept number = option_map_or (λ context. context.size) (slice_get kept number) 0

-- the entries of the context with a number; none if there is no such context
abbrev pub kept_at : List KeptContext → ℕ → List Known
kept_at kept number = option_map_or (λ context. context.entries) (slice_get kept number) []

-- the first entry that passes, in the first of the contexts with these numbers that has such an entry
abbrev pub found_first : List KeptContext → (Known → Bool) → List ℕ → Option Known
found_first kept test [] = None
found_first kept test (number ∷ order) = option_or (find test (kept_at kept number)) (found_first kept test order)

-- a pattern that is found has at most so many classes
abbrev pub FindsPattern : PlanOf → Option EntryId → ℕ → Type 0
FindsPattern plan found count = (id : EntryId) (entry : Entry) → found ≡ Some id → entry_at plan id ≡ Some entry → class_count entry.name ≤ count
