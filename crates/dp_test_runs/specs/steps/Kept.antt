-- A step of the code: the entries that tests ran are kept once each.
use Rattle.std.specs.Prelude.{◌≡◌, Bool, ◌||◌, List}
use Rattle.dp_plan.specs.declared.entry.EntryId.{EntryId}
use Rattle.dp_test_runs.specs.Coverage.{has_run}

-- an entry is among the new ones if it is among the old ones or passes the test
abbrev pub Adds : (EntryId → Bool) → List EntryId → List EntryId → Type 0
Adds test old new = (id : EntryId) → has_run new id ≡ (has_run old id || test id)
