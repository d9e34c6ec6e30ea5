use Rattle.std.proofs.Common.{◌≡◌, take}
use Rattle.indexmap.specs.IndexSet.{insert_all}
use Rattle.dp_audit.specs.Candidates.{same_id}
use Rattle.dp_program.proofs.graphs.add_entries.Given as goal

-- the entries so far are inserted
abbrev pub invariant-loop-entry : goal.invariant-loop-entry
invariant-loop-entry l = l.filled.keys ≡ insert_all same_id l.fn.filled.keys (take l.entry-index l.entries)
