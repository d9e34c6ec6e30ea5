-- Verdicts, row by row.
use Rattle.std.proofs.Common.{◌≡◌, true, false, [], None, Some, codes, refl}
use Rattle.dp_machine.specs.declared.refusal.Refusal.TheVariants.{NoChannel, NotReady}
use Rattle.dp_test_runs.specs.Tests.{refused_failure}
use Rattle.dp_test_runs.specs.Verdicts.{begins_state, comes_true, has_arguments, has_priority, was_refused}

-- a state begins with a text at a blank, at a comma, or as a whole
whole_state : begins_state (codes "ended") (codes "ended") ≡ true
whole_state = refl

state_to_a_blank : begins_state (codes "ready") (codes "ready main,s,1") ≡ true
state_to_a_blank = refl

state_to_a_comma : begins_state (codes "ready main,s") (codes "ready main,s,1") ≡ true
state_to_a_comma = refl

state_inside_a_word : begins_state (codes "ready ma") (codes "ready main,s,1") ≡ false
state_inside_a_word = refl

longer_text : begins_state (codes "ended now") (codes "ended") ≡ false
longer_text = refl

-- what a line does not give counts for nothing
any_arguments : has_arguments None (codes "5") ≡ true
any_arguments = refl

other_arguments : has_arguments (Some []) (codes "5") ≡ false
other_arguments = refl

any_priority : has_priority None 3 ≡ true
any_priority = refl

other_priority : has_priority (Some 2) 3 ≡ false
other_priority = refl

-- of what is unknown nothing comes true
unknown : comes_true false None ≡ false
unknown = refl

not_unknown : comes_true true None ≡ false
not_unknown = refl

not_true : comes_true true (Some true) ≡ false
not_true = refl

not_false : comes_true true (Some false) ≡ true
not_false = refl

-- refusals
refused_somehow : was_refused None (Some NoChannel) ≡ true
refused_somehow = refl

refused_otherwise : was_refused (Some NotReady) (Some NoChannel) ≡ false
refused_otherwise = refl

taken : was_refused None None ≡ false
taken = refl

expected_refusal : refused_failure 3 (Some NoChannel) true ≡ None
expected_refusal = refl
