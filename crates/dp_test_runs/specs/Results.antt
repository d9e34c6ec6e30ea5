-- The results of tests.
use Rattle.std.specs.Prelude.{ℕ, List, Option, Result, Ok}
use Rattle.std.specs.Option.{option_map}
use Rattle.dp_conf.specs.Answers.{◌>>=◌}
use Rattle.dp_machine.specs.World.{World, opening_with}
use Rattle.dp_commands.specs.Run.{files_of}
use Rattle.dp_commands.specs.declared.fault.PbxFault.{PbxFault}
use Rattle.dp_wide.specs.Functions.{wide_functions}
use Rattle.dp_tests.specs.declared.file.Test.{Test}
use Rattle.dp_tests.specs.declared.file.TestFile.{TestFile}
use Rattle.dp_test_runs.specs.Shown.{got_text}
use Rattle.dp_test_runs.specs.Tests.{Ended, beginning, ended_in}
use Rattle.dp_test_runs.specs.declared.named_text.NamedFileText.{NamedFileText}
use Rattle.dp_test_runs.specs.declared.test_run.TestResult.{TestResult}
use Rattle.dp_test_runs.specs.declared.test_run.TestTexts.{TestTexts}

-- the result of a test that ended so
abbrev pub result_by : Test → Ended → TestResult
result_by test end = record { failure = end.failure; got = got_text end.course test.lines end.failure; ran = end.course.ran; changes = end.course.changes }

-- the result of a test of a file in a machine with this world
abbrev pub result_on : List NamedFileText → TestFile → Test → World → TestResult
result_on files file test w = result_by test (ended_in files file test (beginning w))

-- the world in which a test begins, given the texts of the dialplan and of its queues, if there are some; or the first fault
unfoldable pub opening_of : List ℕ → Option (List ℕ) → Result World PbxFault
opening_of plan queues = files_of plan queues >>= λ files. Ok (opening_with wide_functions files.plan files.queues)

-- the result of a test of a file on these texts, or the first fault of the dialplan or of the queues
unfoldable pub result_of : TestTexts → TestFile → Test → Result TestResult PbxFault
result_of texts file test =
    opening_of texts.plan.now (option_map (λ text. text.now) texts.queues) >>= λ w. Ok (result_on texts.reloaded.now file test w)
