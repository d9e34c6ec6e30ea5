use Rattle.std.proofs.Common.{◌≡◌, take}
use Rattle.indexmap.specs.IndexSet.{insert_all}
use Rattle.dp_plan.specs.Ranking.{shares_place}
use Rattle.dp_diff.proofs.searcher.add_entries.Given as goal

-- the entries so far are inserted
abbrev pub invariant-loop-entry : goal.invariant-loop-entry
invariant-loop-entry l = l.places.keys ≡ insert_all shares_place l.fn.places.keys (take l.entry-index l.entries)
