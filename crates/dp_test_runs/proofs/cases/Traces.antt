-- Traces and reports, row by row.
use Rattle.std.proofs.Common.{◌≡◌, ℕ, [], ◌∷◌, ◌++◌, None, Some, codes, decimal, refl}
use Rattle.dp_machine.specs.declared.refusal.Refusal.TheVariants.{NoChannel}
use Rattle.dp_test_runs.specs.Coverage.{never_line}
use Rattle.dp_test_runs.specs.Points.{expected_by, line_shown}
use Rattle.dp_test_runs.specs.Traces.{last_five, plan_at}
use Rattle.dp_test_runs.specs.declared.course.PlanChange.{PlanChange}
use Rattle.dp_test_runs.specs.declared.failure.FailureKind.TheVariants as kinds

change : ℕ → ℕ → PlanChange
change after file = record { after = after; file = file }

-- an entry stands in the dialplan that was last put in force before it ran
without_changes : plan_at [] 3 ≡ None
without_changes = refl

before_the_change : plan_at (change 2 0 ∷ []) 1 ≡ None
unfolding change
before_the_change = refl

at_the_change : plan_at (change 2 0 ∷ []) 2 ≡ Some 0
unfolding change
at_the_change = refl

after_two_changes : plan_at (change 0 1 ∷ change 2 0 ∷ []) 5 ≡ Some 0
unfolding change
after_two_changes = refl

between_two_changes : plan_at (change 0 1 ∷ change 2 0 ∷ []) 1 ≡ Some 1
unfolding change
between_two_changes = refl

-- the last five lines, or all of fewer
five_of_six : last_five (codes "a" ∷ codes "b" ∷ codes "c" ∷ codes "d" ∷ codes "e" ∷ codes "f" ∷ [])
    ≡ codes "b" ∷ codes "c" ∷ codes "d" ∷ codes "e" ∷ codes "f" ∷ []
five_of_six = refl

all_of_two : last_five (codes "a" ∷ codes "b" ∷ []) ≡ codes "a" ∷ codes "b" ∷ []
all_of_two = refl

-- what was expected, in the words of the line where there are some
of_the_line : expected_by (codes "test x\n expect  not 1 ended \n") 2 kinds.Unmet ≡ codes "not 1 ended"
of_the_line = refl

of_an_event : expected_by [] 1 (kinds.Refused NoChannel) ≡ codes "done"
of_an_event = refl

of_steps : expected_by [] 1 kinds.Endless ≡ codes "at most 10000 steps"
of_steps = refl

of_a_channel : expected_by [] 1 (kinds.LeftUnknown 12) ≡ codes "an expectation of channel " ++ decimal 12
of_a_channel = refl

place : line_shown (codes "a.test") 4 ≡ codes "a.test:" ++ decimal 4
place = refl

-- an entry that no test ran
never : never_line (codes "a:2") (codes "main,s,1 Hangup") ≡ codes "# never a:2 main,s,1 Hangup\n"
never = refl
