-- `ExecIf`, which runs an application of a table if a condition holds.
use Rattle.std.specs.Prelude.{ℕ, zero, suc, Bool, true, false, List, [], ◌∷◌, ◌++◌, Option, Some, None, is_some, codes, if◌then◌else◌}
use Rattle.std.specs.Option.{option_map, option_map_or, option_to_list}
use Rattle.std.specs.Str.{byte}
use Rattle.dp_conf.specs.Blanks.{trim}
use Rattle.dp_conf.specs.Cut.{cut_once}
use Rattle.dp_conf.specs.Levels.{cut_outside}
use Rattle.dp_app.specs.Cells.{CellOf}
use Rattle.dp_app.specs.Rows.{Outcome, Row, Rows}
use Rattle.dp_app.specs.Tables.{with_row}
use Rattle.dp_app.specs.declared.moves.Move.TheVariants.{Next}
use Rattle.dp_app.specs.declared.touch.Touch.{Touch}
use Rattle.dp_flow.specs.Conditions.{chosen_side, holds, taken_side}
use Rattle.dp_flow.specs.Jumps.{stays}
use Rattle.dp_flow.specs.Plain.{hangup_row}
use Rattle.dp_wide.specs.Sides.{called_side}
use Rattle.dp_wide.specs.declared.exec_if.SideCall.{SideCall}
use Rattle.dp_wide.specs.declared.exec_if.SideCalls.{SideCalls}

-- whether the arguments have the old form: a comma outside parentheses comes before the first `?`, or there is no `?`
abbrev pub has_old_form : List ℕ → Bool
has_old_form arguments = option_map_or (λ cut. is_some (cut_outside (byte ",") cut.0)) (cut_once (byte "?") arguments) true

-- an application with its name and arguments, unless the name is empty
abbrev pub named_call : List ℕ → List ℕ → Option (List ℕ × List ℕ)
named_call [] arguments = None
named_call (b ∷ bs) arguments = Some (b ∷ bs, arguments)

-- the application that `NAME,ARGUMENTS` names: its first comma outside parentheses ends the name; the arguments are unchanged
abbrev pub called_part : List ℕ → Option (List ℕ × List ℕ) → Option (List ℕ × List ℕ)
called_part text None = named_call (trim text) []
called_part text (Some cut) = named_call (trim cut.0) cut.1

-- the application that the old form `CONDITION,NAME,ARGUMENTS` runs, given the first comma outside parentheses
abbrev pub called_old : Option (List ℕ × List ℕ) → Option (List ℕ × List ℕ)
called_old None = None
called_old (Some cut) = if holds cut.0 then called_part cut.1 (cut_outside (byte ",") cut.1) else None

-- the name and arguments of the application that an `ExecIf` with these arguments runs, if there is one: that of the side of
-- `CONDITION?SIDE:SIDE` that is taken, or that of the old form
unfoldable pub exec_if_application : List ℕ → Option (List ℕ × List ℕ)
exec_if_application arguments =
    if has_old_form arguments then called_old (cut_outside (byte ",") arguments) else option_map called_side (chosen_side arguments)

-- the application that the old form names, whether its condition holds or not, given the first comma outside parentheses
abbrev pub old_call : Option (List ℕ × List ℕ) → Option (List ℕ × List ℕ)
old_call None = None
old_call (Some cut) = called_part cut.1 (cut_outside (byte ",") cut.1)

-- the applications that the sides name, given the first `?`
abbrev pub side_calls : Option (List ℕ × List ℕ) → List (List ℕ × List ℕ)
side_calls None = []
side_calls (Some cut) =
    option_to_list (option_map called_side (taken_side true cut.1)) ++ option_to_list (option_map called_side (taken_side false cut.1))

-- the applications that an `ExecIf` may run, each with its arguments, whichever side its condition takes
unfoldable pub exec_if_calls : List ℕ → List (List ℕ × List ℕ)
exec_if_calls arguments =
    if has_old_form arguments then option_to_list (old_call (cut_outside (byte ",") arguments)) else side_calls (cut_once (byte "?") arguments)

-- the result of a call
abbrev pub call_now : SideCall → List ℕ × List ℕ
call_now call = (call.name.now, call.arguments.now)

abbrev pub calls_in : SideCalls → List (List ℕ × List ℕ)
calls_in calls = option_to_list (option_map call_now calls.first) ++ option_to_list (option_map call_now calls.second)

-- the row that a table has for a name; a name that the table lacks ends the call
abbrev pub row_or_end : Option Row → Row
row_or_end None = hangup_row
row_or_end (Some row) = row

-- how an application of a table changes a cell; without an application the channel goes on
abbrev pub run_in : Rows → Option (List ℕ × List ℕ) → CellOf → Outcome
run_in rows None cell = stays cell Next
run_in rows (Some call) cell = row_or_end (rows call.0) call.1 cell

-- the row of an `ExecIf` that runs the applications of a table
abbrev pub exec_if_row : Rows → Row
exec_if_row rows arguments cell = run_in rows (exec_if_application arguments) cell

-- the name `ExecIf`
abbrev pub exec_if_title : List ℕ
exec_if_title = codes "ExecIf"

-- the row of an `ExecIf` over a table, when so many may still run inside each other, including this one
abbrev pub exec_if_within : ℕ → Rows → Row
exec_if_within zero rows = hangup_row
exec_if_within (suc more) rows = exec_if_row (with_row exec_if_title (exec_if_within more rows) rows)

-- a table with `ExecIf`, which runs the applications of this table; an `ExecIf` inside 8 others ends the call
abbrev pub with_exec_if : Rows → Rows
with_exec_if rows = with_row exec_if_title (exec_if_within 8 rows) rows

-- what `ExecIf` may change: everything, because the application that it runs may
abbrev pub everything : Touch
everything = record { variables = true; frames = true; globals = true; caller = true; members = true; waiting = true }
