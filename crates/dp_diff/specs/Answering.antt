-- The entries with which the contexts of a dialplan answer.
use Rattle.std.specs.Prelude.{ℕ, Bool, List, []}
use Rattle.std.specs.List.{flat_map, list_any}
use Rattle.dp_lookup.specs.FoundEntry.{entries_at}
use Rattle.dp_lookup.specs.SearchOrder.{search_order}
use Rattle.dp_plan.specs.Plan.{PlanOf, kept_by}
use Rattle.dp_plan.specs.Ranking.{shares_place}
use Rattle.dp_plan.specs.declared.entry.Entry.{Entry}

-- the entries through which a look-up in a context goes: its own in file order, then those of its includes, depth first; an unknown context
-- has none
abbrev pub searched_entries : PlanOf → List ℕ → List Entry
searched_entries plan context = flat_map (entries_at plan) (search_order plan context)

-- one of the entries has the priority of this one, and its name or another of the same meaning
abbrev pub has_place : List Entry → Entry → Bool
has_place entries entry = list_any (shares_place entry) entries

-- the entries with which a context answers: all of those, except the ones whose name and priority an earlier one has
unfoldable pub answering : PlanOf → List ℕ → List Entry
answering plan context = kept_by has_place [] (searched_entries plan context)
