use Rattle.std.proofs.Common.{◌≡◌, ◌++◌, drop}
use Rattle.std.specs.List.{flat_map}
use Rattle.dp_commands.specs.Candidates.{candidate_line}
use Rattle.dp_commands.proofs.candidates.push_candidates.Given as goal

abbrev pub invariant-loop-candidate : goal.invariant-loop-candidate
invariant-loop-candidate l =
    l.out.begun ++ flat_map (candidate_line l.plan l.priority) (drop l.candidate-index l.candidates)
    ≡ l.fn.out.begun ++ flat_map (candidate_line l.plan l.priority) l.candidates
