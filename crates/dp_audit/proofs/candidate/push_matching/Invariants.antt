use Rattle.std.proofs.Common.{◌≡◌, ◌++◌, length}
use Rattle.dp_audit.specs.Candidates.{matching_in}
use Rattle.dp_audit.proofs.candidate.push_matching.Given as goal

abbrev pub invariant-loop-rest : goal.invariant-loop-rest
invariant-loop-rest l =
    l.list.items ++ matching_in l.plan l.text l.priority l.rest ≡ l.fn.list.items ++ matching_in l.plan l.text l.priority l.ids

abbrev pub decreases-loop-rest : goal.decreases-loop-rest
decreases-loop-rest l = length l.rest
