-- Command lines, computed from the definition.
use Rattle.std.proofs.Common.{◌≡◌, false, [], ◌∷◌, Some, None, codes, refl, true}
use Rattle.clap.proofs.OnLiterals.{clap_on_literals}
use Rattle.clap.specs.Faults.{fault_of}
use Rattle.clap.specs.declared.error.kind.ErrorKind.TheVariants as kind
use Rattle.dp_program.specs.Entries.{found_entry, found_number}
use Rattle.dp_program.specs.Requests.{joined, check, check_files, check_both_files, check_queues, check_both, listing, auditing, matching, explaining, run, run_wide, debug, debug_wide, testing, comparing_files, comparing_reach, comparing_reach_files, drawing, drawing_files}
use Rattle.dp_cli.specs.CommandLine.{pbx_app, asked_of, options_of, usual_facts}
use Rattle.dp_cli.specs.Refusals.{refusals_of}
use Rattle.dp_wide.specs.Times.{moment_of, weekday_named}

no_command : asked_of (codes "pbx" ∷ []) ≡ Some joined
unfolding clap_on_literals asked_of
no_command = refl

checked : asked_of (codes "pbx" ∷ codes "check" ∷ codes "a.conf" ∷ []) ≡ Some (check (codes "a.conf"))
unfolding clap_on_literals asked_of
checked = refl

checked_queues : asked_of (codes "pbx" ∷ codes "check" ∷ codes "--queues" ∷ codes "q.conf" ∷ []) ≡ Some (check_queues (codes "q.conf"))
unfolding clap_on_literals asked_of
checked_queues = refl

checked_both : asked_of (codes "pbx" ∷ codes "check" ∷ codes "a.conf" ∷ codes "--queues" ∷ codes "q.conf" ∷ []) ≡ Some (check_both (codes "a.conf") (codes "q.conf"))
unfolding clap_on_literals asked_of
checked_both = refl

listed : asked_of (codes "pbx" ∷ codes "list" ∷ codes "a.conf" ∷ []) ≡ Some (listing (codes "a.conf"))
unfolding clap_on_literals asked_of
listed = refl

matched : asked_of (codes "pbx" ∷ codes "match" ∷ codes "a.conf" ∷ codes "main" ∷ codes "555-1234" ∷ []) ≡ Some (matching (record { file = codes "a.conf"; context = codes "main"; text = codes "555-1234"; priority = 1 }) false)
unfolding clap_on_literals asked_of
matched = refl

matched_at : asked_of (codes "pbx" ∷ codes "match" ∷ codes "a.conf" ∷ codes "main" ∷ codes "5" ∷ codes "07" ∷ []) ≡ Some (matching (record { file = codes "a.conf"; context = codes "main"; text = codes "5"; priority = 7 }) false)
unfolding clap_on_literals asked_of
matched_at = refl

matched_nowhere : asked_of (codes "pbx" ∷ codes "match" ∷ codes "a.conf" ∷ codes "main" ∷ codes "5" ∷ codes "0" ∷ []) ≡ None
unfolding clap_on_literals asked_of
matched_nowhere = refl

matched_dashes : asked_of (codes "pbx" ∷ codes "match" ∷ codes "--" ∷ codes "a.conf" ∷ codes "-in-" ∷ codes "-1" ∷ []) ≡ Some (matching (record { file = codes "a.conf"; context = codes "-in-"; text = codes "-1"; priority = 1 }) false)
unfolding clap_on_literals asked_of
matched_dashes = refl

matched_all : asked_of (codes "pbx" ∷ codes "match" ∷ codes "--all" ∷ codes "a.conf" ∷ codes "main" ∷ codes "5" ∷ codes "2" ∷ []) ≡ Some (matching (record { file = codes "a.conf"; context = codes "main"; text = codes "5"; priority = 2 }) true)
unfolding clap_on_literals asked_of
matched_all = refl

matched_all_after : asked_of (codes "pbx" ∷ codes "match" ∷ codes "a.conf" ∷ codes "main" ∷ codes "5" ∷ codes "--all" ∷ []) ≡ Some (matching (record { file = codes "a.conf"; context = codes "main"; text = codes "5"; priority = 1 }) true)
unfolding clap_on_literals asked_of
matched_all_after = refl

audited : asked_of (codes "pbx" ∷ codes "audit" ∷ codes "a.conf" ∷ []) ≡ Some (auditing (codes "a.conf"))
unfolding clap_on_literals asked_of found_entry
audited = refl

explained : asked_of (codes "pbx" ∷ codes "explain" ∷ codes "71" ∷ []) ≡ Some (explaining 71)
unfolding clap_on_literals asked_of found_entry
explained = refl

explained_zeros : asked_of (codes "pbx" ∷ codes "explain" ∷ codes "020" ∷ []) ≡ Some (explaining 20)
unfolding clap_on_literals asked_of found_entry
explained_zeros = refl

explained_refusal : asked_of (codes "pbx" ∷ codes "explain" ∷ codes "53" ∷ []) ≡ Some (explaining 53)
unfolding clap_on_literals asked_of found_entry
explained_refusal = refl

explained_name : asked_of (codes "pbx" ∷ codes "explain" ∷ codes "NoEquals" ∷ []) ≡ Some (explaining 4)
unfolding clap_on_literals asked_of found_entry found_number
explained_name = refl

ran : asked_of (codes "pbx" ∷ codes "run" ∷ codes "a.conf" ∷ codes "b.script" ∷ []) ≡ Some (run (record { plan = codes "a.conf"; queues = None; second_plan = None; script = codes "b.script" }) None false)
unfolding clap_on_literals asked_of
ran = refl

ran_with_queues : asked_of (codes "pbx" ∷ codes "run" ∷ codes "--queues" ∷ codes "q.conf" ∷ codes "a.conf" ∷ codes "b.script" ∷ []) ≡ Some (run (record { plan = codes "a.conf"; queues = Some (codes "q.conf"); second_plan = None; script = codes "b.script" }) None false)
unfolding clap_on_literals asked_of
ran_with_queues = refl

ran_in_threads : asked_of (codes "pbx" ∷ codes "run" ∷ codes "--threads" ∷ codes "2" ∷ codes "a.conf" ∷ codes "b.script" ∷ []) ≡ Some (run (record { plan = codes "a.conf"; queues = None; second_plan = None; script = codes "b.script" }) (Some 2) false)
unfolding clap_on_literals asked_of
ran_in_threads = refl

ran_in_threads_with_queues : asked_of (codes "pbx" ∷ codes "run" ∷ codes "--queues" ∷ codes "q.conf" ∷ codes "--threads" ∷ codes "64" ∷ codes "a.conf" ∷ codes "b.script" ∷ []) ≡ Some (run (record { plan = codes "a.conf"; queues = Some (codes "q.conf"); second_plan = None; script = codes "b.script" }) (Some 64) false)
unfolding clap_on_literals asked_of
ran_in_threads_with_queues = refl

debugged : asked_of (codes "pbx" ∷ codes "debug" ∷ codes "--break" ∷ codes "main,s,1" ∷ codes "a.conf" ∷ codes "b.script" ∷ []) ≡ Some (debug (record { plan = codes "a.conf"; queues = None; second_plan = None; script = codes "b.script" }) (codes "main,s,1") false)
unfolding clap_on_literals asked_of
debugged = refl

debugged_with_queues : asked_of (codes "pbx" ∷ codes "debug" ∷ codes "--queues" ∷ codes "q.conf" ∷ codes "--break" ∷ codes "x" ∷ codes "a.conf" ∷ codes "b.script" ∷ []) ≡ Some (debug (record { plan = codes "a.conf"; queues = Some (codes "q.conf"); second_plan = None; script = codes "b.script" }) (codes "x") false)
unfolding clap_on_literals asked_of
debugged_with_queues = refl

ran_with_second_plan : asked_of (codes "pbx" ∷ codes "run" ∷ codes "--reload" ∷ codes "c.conf" ∷ codes "--threads" ∷ codes "2" ∷ codes "a.conf" ∷ codes "b.script" ∷ []) ≡ Some (run (record { plan = codes "a.conf"; queues = None; second_plan = Some (codes "c.conf"); script = codes "b.script" }) (Some 2) false)
unfolding clap_on_literals asked_of
ran_with_second_plan = refl

debugged_with_second_plan : asked_of (codes "pbx" ∷ codes "debug" ∷ codes "--break" ∷ codes "x" ∷ codes "--reload" ∷ codes "c.conf" ∷ codes "a.conf" ∷ codes "b.script" ∷ []) ≡ Some (debug (record { plan = codes "a.conf"; queues = None; second_plan = Some (codes "c.conf"); script = codes "b.script" }) (codes "x") false)
unfolding clap_on_literals asked_of
debugged_with_second_plan = refl

ran_verbose : asked_of (codes "pbx" ∷ codes "run" ∷ codes "--verbose" ∷ codes "a.conf" ∷ codes "b.script" ∷ []) ≡ Some (run (record { plan = codes "a.conf"; queues = None; second_plan = None; script = codes "b.script" }) None true)
unfolding clap_on_literals asked_of
ran_verbose = refl

ran_verbose_in_threads : asked_of (codes "pbx" ∷ codes "run" ∷ codes "a.conf" ∷ codes "b.script" ∷ codes "--verbose" ∷ codes "--threads" ∷ codes "2" ∷ []) ≡ Some (run (record { plan = codes "a.conf"; queues = None; second_plan = None; script = codes "b.script" }) (Some 2) true)
unfolding clap_on_literals asked_of
ran_verbose_in_threads = refl

ran_wide : asked_of (codes "pbx" ∷ codes "run" ∷ codes "--asterisk" ∷ codes "a.conf" ∷ codes "b.script" ∷ []) ≡ Some (run_wide (record { plan = codes "a.conf"; queues = None; second_plan = None; script = codes "b.script" }) false)
unfolding clap_on_literals asked_of
ran_wide = refl

ran_wide_with_more_files : asked_of (codes "pbx" ∷ codes "run" ∷ codes "a.conf" ∷ codes "--reload" ∷ codes "c.conf" ∷ codes "--queues" ∷ codes "q.conf" ∷ codes "b.script" ∷ codes "--asterisk" ∷ []) ≡ Some (run_wide (record { plan = codes "a.conf"; queues = Some (codes "q.conf"); second_plan = Some (codes "c.conf"); script = codes "b.script" }) false)
unfolding clap_on_literals asked_of
ran_wide_with_more_files = refl

ran_wide_verbose : asked_of (codes "pbx" ∷ codes "run" ∷ codes "--asterisk" ∷ codes "--verbose" ∷ codes "a.conf" ∷ codes "b.script" ∷ []) ≡ Some (run_wide (record { plan = codes "a.conf"; queues = None; second_plan = None; script = codes "b.script" }) true)
unfolding clap_on_literals asked_of
ran_wide_verbose = refl

debugged_verbose : asked_of (codes "pbx" ∷ codes "debug" ∷ codes "--break" ∷ codes "x" ∷ codes "--verbose" ∷ codes "a.conf" ∷ codes "b.script" ∷ []) ≡ Some (debug (record { plan = codes "a.conf"; queues = None; second_plan = None; script = codes "b.script" }) (codes "x") true)
unfolding clap_on_literals asked_of
debugged_verbose = refl

compared : asked_of (codes "pbx" ∷ codes "diff" ∷ codes "--asterisk" ∷ codes "a.conf" ∷ codes "b.conf" ∷ []) ≡ Some (comparing_files (codes "a.conf") (codes "b.conf"))
unfolding clap_on_literals asked_of
compared = refl

drawn : asked_of (codes "pbx" ∷ codes "graph" ∷ codes "a.conf" ∷ []) ≡ Some (drawing (record { file = codes "a.conf"; queues = None; from = None; facts = None }))
unfolding clap_on_literals asked_of
drawn = refl

drawn_files : asked_of (codes "pbx" ∷ codes "graph" ∷ codes "--queues" ∷ codes "q.conf" ∷ codes "--asterisk" ∷ codes "--from" ∷ codes "main" ∷ codes "a.conf" ∷ []) ≡ Some (drawing_files (record { file = codes "a.conf"; queues = Some (codes "q.conf"); from = Some (codes "main"); facts = Some usual_facts }))
unfolding clap_on_literals asked_of
drawn_files = refl

reach_compared : asked_of (codes "pbx" ∷ codes "diff" ∷ codes "--from" ∷ codes "main" ∷ codes "a.conf" ∷ codes "b.conf" ∷ []) ≡ Some (comparing_reach (record { before = codes "a.conf"; after = codes "b.conf"; from = codes "main"; facts = None }))
unfolding clap_on_literals asked_of
reach_compared = refl

reach_compared_files : asked_of (codes "pbx" ∷ codes "diff" ∷ codes "--asterisk" ∷ codes "a.conf" ∷ codes "b.conf" ∷ codes "--from" ∷ codes "main" ∷ []) ≡ Some (comparing_reach_files (record { before = codes "a.conf"; after = codes "b.conf"; from = codes "main"; facts = Some usual_facts }))
unfolding clap_on_literals asked_of
reach_compared_files = refl

debugged_wide : asked_of (codes "pbx" ∷ codes "debug" ∷ codes "--asterisk" ∷ codes "--break" ∷ codes "x" ∷ codes "a.conf" ∷ codes "b.script" ∷ []) ≡ Some (debug_wide (record { plan = codes "a.conf"; queues = None; second_plan = None; script = codes "b.script" }) (codes "x") false)
unfolding clap_on_literals asked_of
debugged_wide = refl

tested : asked_of (codes "pbx" ∷ codes "test" ∷ codes "a.test" ∷ []) ≡ Some (testing (codes "a.test" ∷ []) false false false)
unfolding clap_on_literals asked_of
tested = refl

tested_with_cover : asked_of (codes "pbx" ∷ codes "test" ∷ codes "--cover" ∷ codes "a.test" ∷ []) ≡ Some (testing (codes "a.test" ∷ []) false true false)
unfolding clap_on_literals asked_of
tested_with_cover = refl

tested_as_picture : asked_of (codes "pbx" ∷ codes "test" ∷ codes "--graph" ∷ codes "a.test" ∷ []) ≡ Some (testing (codes "a.test" ∷ []) false false true)
unfolding clap_on_literals asked_of
tested_as_picture = refl

tested_several : asked_of (codes "pbx" ∷ codes "test" ∷ codes "a.test" ∷ codes "--trace" ∷ codes "b.test" ∷ codes "c.test" ∷ []) ≡ Some (testing (codes "a.test" ∷ codes "b.test" ∷ codes "c.test" ∷ []) true false false)
unfolding clap_on_literals asked_of
tested_several = refl

-- whether faults are explained
no_command_explains : (options_of (codes "pbx" ∷ [])).explains ≡ false
unfolding clap_on_literals options_of
no_command_explains = refl

check_explains : (options_of (codes "pbx" ∷ codes "check" ∷ codes "a.conf" ∷ codes "--explain" ∷ [])).explains ≡ true
unfolding clap_on_literals options_of
check_explains = refl

match_explains_not : (options_of (codes "pbx" ∷ codes "match" ∷ codes "--all" ∷ codes "a.conf" ∷ codes "main" ∷ codes "5" ∷ [])).explains ≡ false
unfolding clap_on_literals options_of
match_explains_not = refl

debug_explains : (options_of (codes "pbx" ∷ codes "debug" ∷ codes "--explain" ∷ codes "--break" ∷ codes "x" ∷ codes "a.conf" ∷ codes "b.script" ∷ [])).explains ≡ true
unfolding clap_on_literals options_of
debug_explains = refl

dashes_explain_not : (options_of (codes "pbx" ∷ codes "run" ∷ codes "a.conf" ∷ codes "--" ∷ codes "--explain" ∷ [])).explains ≡ false
unfolding clap_on_literals options_of
dashes_explain_not = refl

explain_beside_all : asked_of (codes "pbx" ∷ codes "match" ∷ codes "--all" ∷ codes "--explain" ∷ codes "a.conf" ∷ codes "main" ∷ codes "5" ∷ []) ≡ Some (matching (record { file = codes "a.conf"; context = codes "main"; text = codes "5"; priority = 1 }) true)
unfolding clap_on_literals asked_of
explain_beside_all = refl

-- whether the output is JSON
check_is_json : (options_of (codes "pbx" ∷ codes "check" ∷ codes "a.conf" ∷ codes "--json" ∷ [])).is_json ≡ true
unfolding clap_on_literals options_of
check_is_json = refl

audit_is_json : (options_of (codes "pbx" ∷ codes "audit" ∷ codes "--json" ∷ codes "--asterisk" ∷ codes "a.conf" ∷ [])).is_json ≡ true
unfolding clap_on_literals options_of
audit_is_json = refl

match_is_json : (options_of (codes "pbx" ∷ codes "match" ∷ codes "--all" ∷ codes "--json" ∷ codes "a.conf" ∷ codes "main" ∷ codes "5" ∷ [])).is_json ≡ true
unfolding clap_on_literals options_of
match_is_json = refl

reach_is_json : (options_of (codes "pbx" ∷ codes "reach" ∷ codes "--json" ∷ codes "a.conf" ∷ codes "main" ∷ [])).is_json ≡ true
unfolding clap_on_literals options_of
reach_is_json = refl

test_is_json : (options_of (codes "pbx" ∷ codes "test" ∷ codes "a.test" ∷ codes "--json" ∷ [])).is_json ≡ true
unfolding clap_on_literals options_of
test_is_json = refl

match_assumes : (options_of (codes "pbx" ∷ codes "match" ∷ codes "--assume" ∷ codes "Switch" ∷ codes "a.conf" ∷ codes "main" ∷ codes "5" ∷ [])).assumed ≡ Some (codes "Switch")
unfolding clap_on_literals options_of
match_assumes = refl

match_is_text : (options_of (codes "pbx" ∷ codes "match" ∷ codes "a.conf" ∷ codes "main" ∷ codes "5" ∷ [])).is_json ≡ false
unfolding clap_on_literals options_of
match_is_text = refl

no_command_is_text : (options_of (codes "pbx" ∷ [])).is_json ≡ false
unfolding clap_on_literals options_of
no_command_is_text = refl

json_beside_all : asked_of (codes "pbx" ∷ codes "match" ∷ codes "--all" ∷ codes "--json" ∷ codes "a.conf" ∷ codes "main" ∷ codes "5" ∷ []) ≡ Some (matching (record { file = codes "a.conf"; context = codes "main"; text = codes "5"; priority = 1 }) true)
unfolding clap_on_literals asked_of
json_beside_all = refl

-- words that are refused, and words that are not
json_of_a_listing : fault_of pbx_app (codes "pbx" ∷ codes "list" ∷ codes "--json" ∷ codes "a.conf" ∷ []) ≡ kind.UnknownArgument ∷ []
unfolding clap_on_literals
json_of_a_listing = refl

explain_alone : fault_of pbx_app (codes "pbx" ∷ codes "--explain" ∷ []) ≡ kind.UnknownArgument ∷ []
unfolding clap_on_literals
explain_alone = refl

no_fault : fault_of pbx_app (codes "pbx" ∷ codes "check" ∷ codes "a.conf" ∷ []) ≡ []
unfolding clap_on_literals
no_fault = refl

unknown_command : fault_of pbx_app (codes "pbx" ∷ codes "frob" ∷ []) ≡ kind.UnknownArgument ∷ kind.InvalidSubcommand ∷ []
unfolding clap_on_literals
unknown_command = refl

extra_word : fault_of pbx_app (codes "pbx" ∷ codes "check" ∷ codes "a.conf" ∷ codes "b.conf" ∷ []) ≡ kind.UnknownArgument ∷ []
unfolding clap_on_literals
extra_word = refl

missing_word : fault_of pbx_app (codes "pbx" ∷ codes "run" ∷ codes "a.conf" ∷ []) ≡ kind.MissingRequiredArgument ∷ []
unfolding clap_on_literals
missing_word = refl

missing_test : fault_of pbx_app (codes "pbx" ∷ codes "test" ∷ codes "--cover" ∷ []) ≡ kind.MissingRequiredArgument ∷ []
unfolding clap_on_literals
missing_test = refl

missing_break : fault_of pbx_app (codes "pbx" ∷ codes "debug" ∷ codes "a.conf" ∷ codes "b.script" ∷ []) ≡ kind.MissingRequiredArgument ∷ []
unfolding clap_on_literals
missing_break = refl

version : refusals_of (codes "pbx" ∷ codes "--version" ∷ []) ≡ kind.DisplayVersion ∷ []
unfolding clap_on_literals refusals_of
version = refl

no_version_of_a_command : fault_of pbx_app (codes "pbx" ∷ codes "check" ∷ codes "--version" ∷ []) ≡ kind.UnknownArgument ∷ []
unfolding clap_on_literals
no_version_of_a_command = refl

nothing_to_check : refusals_of (codes "pbx" ∷ codes "check" ∷ codes "--explain" ∷ []) ≡ kind.MissingRequiredArgument ∷ []
unfolding clap_on_literals refusals_of
nothing_to_check = refl

-- words that are refused only for their number
no_priority : refusals_of (codes "pbx" ∷ codes "match" ∷ codes "a.conf" ∷ codes "main" ∷ codes "5" ∷ codes "0" ∷ []) ≡ kind.ValueValidation ∷ []
unfolding clap_on_literals refusals_of
no_priority = refl

no_threads : refusals_of (codes "pbx" ∷ codes "run" ∷ codes "--threads" ∷ codes "65" ∷ codes "a.conf" ∷ codes "b.script" ∷ []) ≡ kind.ValueValidation ∷ []
unfolding clap_on_literals refusals_of
no_threads = refl

no_threads_over_the_wide_table : refusals_of (codes "pbx" ∷ codes "run" ∷ codes "--threads" ∷ codes "2" ∷ codes "--asterisk" ∷ codes "a.conf" ∷ codes "b.script" ∷ []) ≡ kind.ArgumentConflict ∷ []
unfolding clap_on_literals refusals_of
no_threads_over_the_wide_table = refl

no_fault_number : refusals_of (codes "pbx" ∷ codes "explain" ∷ codes "16" ∷ []) ≡ kind.ValueValidation ∷ []
unfolding clap_on_literals refusals_of found_entry found_number
no_fault_number = refl

two_faults : refusals_of (codes "pbx" ∷ codes "explain" ∷ codes "LeftOut" ∷ []) ≡ kind.ValueValidation ∷ []
unfolding clap_on_literals refusals_of found_entry found_number
two_faults = refl

all_twice : refusals_of (codes "pbx" ∷ codes "match" ∷ codes "--all" ∷ codes "--all" ∷ codes "a.conf" ∷ codes "main" ∷ codes "5" ∷ []) ≡ kind.ArgumentConflict ∷ []
unfolding clap_on_literals refusals_of
all_twice = refl

all_numbers : refusals_of (codes "pbx" ∷ codes "run" ∷ codes "--threads" ∷ codes "64" ∷ codes "a.conf" ∷ codes "b.script" ∷ []) ≡ []
unfolding clap_on_literals refusals_of
all_numbers = refl

-- ---- the moment by which includes with times are read

with_clock : asked_of (codes "pbx" ∷ codes "check" ∷ codes "--asterisk" ∷ codes "--clock" ∷ codes "fri 2026-11-27 09:30" ∷ codes "a.conf" ∷ []) ≡ Some (check_files (codes "a.conf"))
unfolding clap_on_literals asked_of moment_of weekday_named
with_clock = refl

both_with_asterisk : asked_of (codes "pbx" ∷ codes "check" ∷ codes "--asterisk" ∷ codes "--queues" ∷ codes "q.conf" ∷ codes "a.conf" ∷ []) ≡ Some (check_both_files (codes "a.conf") (codes "q.conf"))
unfolding clap_on_literals asked_of
both_with_asterisk = refl

clock_is_told : (options_of (codes "pbx" ∷ codes "list" ∷ codes "--asterisk" ∷ codes "--clock" ∷ codes "fri 2026-11-27 09:30" ∷ codes "a.conf" ∷ [])).clock ≡ Some (codes "fri 2026-11-27 09:30")
unfolding clap_on_literals options_of
clock_is_told = refl

no_clock_is_told : (options_of (codes "pbx" ∷ codes "list" ∷ codes "--asterisk" ∷ codes "a.conf" ∷ [])).clock ≡ None
unfolding clap_on_literals options_of
no_clock_is_told = refl

clock_without_asterisk : asked_of (codes "pbx" ∷ codes "list" ∷ codes "--clock" ∷ codes "fri 2026-11-27 09:30" ∷ codes "a.conf" ∷ []) ≡ None
unfolding clap_on_literals asked_of moment_of
clock_without_asterisk = refl

clock_without_asterisk_refused : refusals_of (codes "pbx" ∷ codes "list" ∷ codes "--clock" ∷ codes "fri 2026-11-27 09:30" ∷ codes "a.conf" ∷ []) ≡ kind.MissingRequiredArgument ∷ []
unfolding clap_on_literals refusals_of moment_of
clock_without_asterisk_refused = refl

no_moment_refused : refusals_of (codes "pbx" ∷ codes "list" ∷ codes "--asterisk" ∷ codes "--clock" ∷ codes "friday" ∷ codes "a.conf" ∷ []) ≡ kind.ValueValidation ∷ []
unfolding clap_on_literals refusals_of moment_of
no_moment_refused = refl
