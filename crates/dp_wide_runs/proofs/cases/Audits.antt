-- The kinds of findings that texts name, and the functions that texts call.
use Rattle.std.proofs.Common.{◌≡◌, true, false, [], ◌∷◌, refl}
use Rattle.std.specs.Prelude.{codes}
use Rattle.dp_wide.specs.AsteriskFunctions.{functions_a_to_c, functions_d_to_e, functions_f_to_i, functions_j_to_o, functions_p_to_q, functions_r_to_s, functions_t_to_z}
use Rattle.dp_wide_runs.specs.FunctionsCalled.{is_no_function, no_functions_in}
use Rattle.dp_wide_runs.specs.Kinds.{are_kinds, has_kind, plain_kinds, wide_kinds}
use Rattle.dp_wide_runs.specs.Mentions.{names_after, names_in}

kinds_in_any_case : are_kinds false (codes "cycle, NOTARGET ,Unset") ≡ true
unfolding plain_kinds
kinds_in_any_case = refl

variables_are_a_kind_there_too : are_kinds true (codes "Unset") ≡ true
unfolding wide_kinds
variables_are_a_kind_there_too = refl

runs_are_a_kind_there_alone : are_kinds false (codes "Loop") ≡ false
unfolding plain_kinds
runs_are_a_kind_there_alone = refl

no_word_is_no_kind : are_kinds true [] ≡ false
unfolding wide_kinds
no_word_is_no_kind = refl

one_of_two : has_kind (codes "Gap, hidden") (codes "Hidden") ≡ true
one_of_two = refl

none_of_two : has_kind (codes "Gap, hidden") (codes "Loop") ≡ false
none_of_two = refl

names_that_are_set : names_in (codes "__A=1") ≡ codes "A" ∷ codes "1" ∷ []
unfolding names_after
names_that_are_set = refl

names_that_are_read : names_in (codes "${A},${B:1}") ≡ codes "1" ∷ []
unfolding names_after
names_that_are_read = refl

names_of_an_array : names_in (codes "ARRAY(a,b-c)=${X},2") ≡ codes "ARRAY" ∷ codes "a" ∷ codes "b-c" ∷ codes "2" ∷ []
unfolding names_after
names_of_an_array = refl

function_that_is_none : no_functions_in (codes "${CUTT(X,-,1)}") ≡ codes "CUTT" ∷ []
unfolding no_functions_in is_no_function functions_a_to_c functions_d_to_e functions_f_to_i functions_j_to_o functions_p_to_q functions_r_to_s functions_t_to_z
function_that_is_none = refl

functions_inside_of_others : no_functions_in (codes "${LEN(${A(${B(1)})})}") ≡ codes "A" ∷ codes "B" ∷ []
unfolding no_functions_in is_no_function functions_a_to_c functions_d_to_e functions_f_to_i functions_j_to_o functions_p_to_q functions_r_to_s functions_t_to_z
functions_inside_of_others = refl

functions_that_are_there : no_functions_in (codes "${CUT(X,-,1)}${DB(a)}${X}(1)${X:1}$X(1)") ≡ []
unfolding no_functions_in is_no_function functions_a_to_c functions_d_to_e functions_f_to_i functions_j_to_o functions_p_to_q functions_r_to_s functions_t_to_z
functions_that_are_there = refl
