use Rattle.std.proofs.Common.{◌≡◌, drop, fold}
use Rattle.std.specs.Option.{option_map}
use Rattle.dp_test_runs.specs.Verdicts.{last_of, later_of}
use Rattle.dp_test_runs.proofs.ran_claims.last_of.Given as goal

abbrev pub invariant-loop-entry : goal.invariant-loop-entry
invariant-loop-entry l =
    fold (later_of l.channel) (option_map (λ entry. entry.now) l.last) (drop l.entry-index l.ran) ≡ last_of l.channel l.ran
