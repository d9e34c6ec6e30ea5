use Rattle.std.proofs.Common.{◌≡◌, [], take}
use Rattle.std.specs.List.{flat_map}
use Rattle.indexmap.specs.IndexSet.{insert_all}
use Rattle.dp_lookup.specs.FoundEntry.{entries_at}
use Rattle.dp_plan.specs.Ranking.{shares_place}
use Rattle.dp_diff.proofs.searcher.places_in.Given as goal

-- the entries of the contexts so far are inserted
abbrev pub invariant-loop-number : goal.invariant-loop-number
invariant-loop-number l = l.places.keys ≡ insert_all shares_place [] (flat_map (entries_at l.plan) (take l.number-index l.order))
