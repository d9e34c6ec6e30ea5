use Rattle.std.proofs.Common.{◌≡◌, ◌-◌, ◌++◌}
use Rattle.dp_test_runs.specs.Ran.{sides_within}
use Rattle.dp_test_runs.proofs.ran_entries.push_sides_within.Given as goal

-- the calls that are left are the last ones of all
abbrev pub invariant-loop-depth : goal.invariant-loop-depth
invariant-loop-depth l =
    l.sides ++ sides_within (l.left - l._depth) l.ran (l.application, l.arguments)
    ≡ l.fn.sides ++ sides_within l.left l.ran (l.ran.application, l.ran.arguments)
