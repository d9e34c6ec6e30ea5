use Rattle.std.proofs.Common.{◌≡◌, ◌++◌, drop}
use Rattle.dp_audit.specs.Candidates.{all_matching}
use Rattle.dp_audit.proofs.candidate.all_matching.Given as goal

abbrev pub invariant-loop-number : goal.invariant-loop-number
invariant-loop-number l =
    l.list.items ++ all_matching l.plan (drop l.number-index l.order) l.text l.priority ≡ all_matching l.plan l.order l.text l.priority
