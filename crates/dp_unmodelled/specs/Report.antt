-- The report of the names that a run meets and that the program does not model.
use Rattle.std.specs.Prelude.{ℕ, Bool, not, ◌&&◌, ◌||◌, ◌==◌, List, [], Option, Result, Ok, Err, is_none, if◌then◌else◌}
use Rattle.std.specs.List.{list_any}
use Rattle.std.specs.Option.{option_map}
use Rattle.std.specs.Str.{byte}
use Rattle.dp_conf.specs.Answers.{◌>>=◌}
use Rattle.dp_plan.specs.Plan.{PlanOf}
use Rattle.dp_plan.specs.declared.entry.Entry.{Entry}
use Rattle.dp_app.specs.Rows.{has_row}
use Rattle.dp_machine.specs.World.{opening_with}
use Rattle.dp_table.specs.Standard.{standard_rows}
use Rattle.dp_commands.specs.Run.{RunContentsOf, contents_of}
use Rattle.dp_commands.specs.Script.{turns_of}
use Rattle.dp_commands.specs.Turns.{lines_of}
use Rattle.dp_commands.specs.declared.fault.PbxFault.{PbxFault}
use Rattle.dp_commands.specs.declared.texts.RunTexts.{RunTexts}
use Rattle.dp_unmodelled.specs.Meeting.{meeting_turn}
use Rattle.dp_unmodelled.specs.Modelled.{modelled_functions}
use Rattle.dp_unmodelled.specs.declared.report.RunReport.{RunReport}

-- a text has a byte
abbrev pub has : List ℕ → ℕ → Bool
has text wanted = list_any (λ b. b == wanted) text

-- an entry may meet something that is not modelled: its application is not, or its arguments may call a function, with a `$` and a `(`
abbrev pub may_meet : Entry → Bool
may_meet entry = not (has_row standard_rows entry.application) || (has entry.arguments (byte "$") && has entry.arguments (byte "("))

abbrev pub plan_may_meet : PlanOf → Bool
plan_may_meet plan = list_any (λ context. list_any may_meet context.entries) plan.contexts

-- a run meets nothing that is not modelled, whatever its script: no entry may, and there is no second dialplan
abbrev pub meets_nothing : Option (List ℕ) → PlanOf → Bool
meets_nothing second_plan plan = is_none second_plan && not (plan_may_meet plan)

-- the lines of the names that a run meets
abbrev pub met_lines : RunContentsOf → List ℕ
met_lines contents = lines_of meeting_turn ([], opening_with modelled_functions contents.plan contents.queues) (turns_of contents.lines)

-- the same, and none if the run meets nothing
abbrev pub reported_lines : Option (List ℕ) → RunContentsOf → List ℕ
reported_lines second_plan contents = if meets_nothing second_plan contents.plan then [] else met_lines contents

-- the lines of a dialplan, its queues, an optional second dialplan and a script, or the first fault
unfoldable pub unmodelled_of : List ℕ → Option (List ℕ) → Option (List ℕ) → List ℕ → Result (List ℕ) PbxFault
unmodelled_of plan queues second_plan script =
    contents_of plan queues second_plan script >>= λ contents. Ok (reported_lines second_plan contents)

-- the same for a record of texts
abbrev pub unmodelled_in : RunTexts → Result (List ℕ) PbxFault
unmodelled_in texts =
    unmodelled_of texts.plan.now (option_map (λ text. text.now) texts.queues) (option_map (λ text. text.now) texts.second_plan) texts.script.now

-- the status of a reported run, or its fault
abbrev pub status_in : Result RunReport PbxFault → Result ℕ PbxFault
status_in (Ok report) = Ok report.status
status_in (Err fault) = Err fault
