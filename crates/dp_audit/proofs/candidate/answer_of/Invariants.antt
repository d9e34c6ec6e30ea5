use Rattle.std.proofs.Common.{◌≡◌, drop}
use Rattle.dp_audit.specs.Candidates.{answer_of}
use Rattle.dp_audit.proofs.candidate.answer_of.Given as goal

abbrev pub invariant-loop-matching : goal.invariant-loop-matching
invariant-loop-matching l = answer_of (drop l.matching-index l.list) ≡ answer_of l.list
