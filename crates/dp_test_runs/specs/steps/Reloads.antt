-- Which tests may put another dialplan in force, and how the next test begins.
use Rattle.std.specs.Prelude.{◌≡◌, Bool, true, false, ◌||◌, List, Option, Result, Ok, Err}
use Rattle.std.specs.List.{list_any}
use Rattle.std.specs.Option.{option_map_or}
use Rattle.dp_plan.specs.Plan.{PlanOf}
use Rattle.dp_machine.specs.Reloading.{is_reload}
use Rattle.dp_machine.specs.World.{World}
use Rattle.dp_commands.specs.declared.fault.PbxFault.{PbxFault}
use Rattle.dp_commands.specs.declared.script.ScriptLine.{ScriptLine}
use Rattle.dp_commands.specs.declared.script.Turn.TheVariants.{Event as turn_event, Show}
use Rattle.dp_wide_runs.specs.declared.wide_turn.WideTurn.{WideTurn}
use Rattle.dp_wide_runs.specs.declared.wide_turn.WideTurn.TheVariants.{Plain, Further, Pass}
use Rattle.dp_tests.specs.declared.file.Act.{Act}
use Rattle.dp_tests.specs.declared.file.Act.TheVariants.{Turns, Reload, Expect}
use Rattle.dp_tests.specs.declared.file.HeadLine.{HeadLine}
use Rattle.dp_tests.specs.declared.file.Test.{Test}
use Rattle.dp_tests.specs.declared.file.TestFile.{TestFile}
use Rattle.dp_tests.specs.declared.file.TestLine.{TestLine}

-- ---- which tests

-- whether a turn is a reload
abbrev pub turn_reloads : WideTurn → Bool
turn_reloads (Plain (turn_event event)) = is_reload event
turn_reloads (Plain (Show number name)) = false
turn_reloads (Further number) = false
turn_reloads (Pass number) = false

-- whether one of these turns is
abbrev pub turns_reload : List (ScriptLine WideTurn) → Bool
turns_reload turns = list_any (λ line. turn_reloads line.turn) turns

-- whether what a line does may be a reload
abbrev pub act_reloads : Act → Bool
act_reloads (Turns turns) = turns_reload turns
act_reloads (Reload name) = true
act_reloads (Expect expectation) = false

-- whether one of these lines may reload
abbrev pub lines_reload : List TestLine → Bool
lines_reload lines = list_any (λ line. act_reloads line.act) lines

-- whether a line of the head that states a fact may reload
abbrev pub fact_reloads : Option HeadLine → Bool
fact_reloads head = option_map_or (λ line. turns_reload line.turns) head false

-- whether the head or the setup of a file may reload
abbrev pub start_reloads : TestFile → Bool
start_reloads file = (fact_reloads file.clock || fact_reloads file.assume) || lines_reload file.setup

-- whether a test of a file may reload: if not, it leaves the dialplan in force that it found
abbrev pub test_reloads : TestFile → Test → Bool
test_reloads file test = start_reloads file || lines_reload test.lines

-- ---- the next test

-- tests begin in a world, and this dialplan is in force there
abbrev pub BeginWith : Result World PbxFault → PlanOf → Type 0
BeginWith (Ok w) plan = plan ≡ w.plan
BeginWith (Err fault) plan = ⊥
