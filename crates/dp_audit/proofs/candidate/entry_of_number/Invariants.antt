use Rattle.std.proofs.Common.{◌≡◌, drop}
use Rattle.std.specs.List.{find}
use Rattle.dp_audit.specs.Candidates.{has_number}
use Rattle.dp_audit.proofs.candidate.entry_of_number.Given as goal

abbrev pub invariant-loop-id : goal.invariant-loop-id
invariant-loop-id l = find (has_number l.plan l.priority) (drop l.id-index l.ids) ≡ find (has_number l.plan l.priority) l.ids
