use Rattle.std.proofs.Common.{◌≡◌, ◌++◌, drop}
use Rattle.dp_json.specs.Matches.{candidates_text}
use Rattle.dp_json.proofs.matching.push_candidates.Given as goal

-- with the lines of the rest, all lines are added
abbrev pub invariant-loop-candidate : goal.invariant-loop-candidate
invariant-loop-candidate l =
    l.out.items ++ candidates_text l.plan l.priority (drop l.candidate-index l.candidates)
    ≡ l.fn.out.items ++ candidates_text l.plan l.priority l.candidates
