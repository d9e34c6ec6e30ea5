-- The entries of a context in the order in which a look-up tries them.
use Rattle.std.specs.Prelude.{◌≡◌, ℕ, ◌<◌, Bool, ◌&&◌, ◌==◌, List, length, map, slice_get, Option, Some}
use Rattle.std.specs.List.{range_with_len, IsDistinct}
use Rattle.std.specs.List.Sorted.{IsPermutation}
use Rattle.std.specs.Option.{option_and_then, option_cmp}
use Rattle.std.specs.Ordering.{ordering_then, nat_cmp}
use Rattle.std.specs.declared.cmp.Ordering.{Ordering}
use Rattle.std.specs.declared.cmp.Ordering.TheVariants.{Less}
use Rattle.dp_pattern.specs.Order.{name_cmp}
use Rattle.dp_plan.specs.Contexts.{PlanContext}
use Rattle.dp_plan.specs.Extensions.{same_name}
use Rattle.dp_plan.specs.declared.entry.Entry.{Entry}
use Rattle.dp_plan.specs.declared.entry.EntryId.{EntryId}

-- entries are ordered by their names, and those with one name by their priorities
abbrev pub entry_cmp : Entry → Entry → Ordering
entry_cmp a b = ordering_then (name_cmp a.name b.name) (nat_cmp a.priority b.priority)

-- two entries of a context have the same name and priority
abbrev pub shares_place : Entry → Entry → Bool
shares_place a b = same_name a.name b.name && a.priority == b.priority

-- no two entries of a context have the same name and priority
abbrev pub AreApart : List Entry → Type 0
AreApart = IsDistinct shares_place

-- the numbers of this many entries of a context, in file order
abbrev pub numbers_of : ℕ → ℕ → List EntryId
numbers_of number count = map (λ k. record { context = number; entry = k }) (range_with_len 0 count)

-- the numbers of the entries of a context, in file order
abbrev pub ids_of : ℕ → List Entry → List EntryId
ids_of number entries = numbers_of number (length entries)

-- the order of two entries, given by their numbers; a number without an entry comes first
abbrev pub id_cmp : List Entry → EntryId → EntryId → Ordering
id_cmp entries a b = option_cmp entry_cmp (slice_get entries a.entry) (slice_get entries b.entry)

-- the entry whose number is at the place
abbrev pub ranked_entry : List Entry → List EntryId → ℕ → Option Entry
ranked_entry entries ids place = option_and_then (λ id. slice_get entries id.entry) (slice_get ids place)

-- the numbers of all entries of a context, each once, and each entry before greater ones
pub record IsRanking (number : ℕ) (entries : List Entry) (ids : List EntryId) : Type 0 where
  pub whole : IsPermutation (ids_of number entries) ids
  pub rising : (i j : ℕ) (a b : Entry) → i < j → ranked_entry entries ids i ≡ Some a → ranked_entry entries ids j ≡ Some b → entry_cmp a b ≡ Less

-- each context has its ranking
pub record AreRanked (contexts : List PlanContext) (rankings : List (List EntryId)) : Type 0 where
  pub count : length rankings ≡ length contexts
  pub each : (number : ℕ) (context : PlanContext) (ids : List EntryId) → slice_get contexts number ≡ Some context → slice_get rankings number ≡ Some ids → IsRanking number context.entries ids
