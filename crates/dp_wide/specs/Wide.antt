-- The wide table: its rows, and the knowledge of what its applications would do.
use Rattle.std.specs.Prelude.{ℕ, zero, suc, Bool, true, false, List, [], ◌∷◌, Option, Some, None, codes, if◌then◌else◌}
use Rattle.std.specs.Option.{option_and_then}
use Rattle.dp_conf.specs.Words.{same_word}
use Rattle.dp_vars.specs.Sights.{Sight}
use Rattle.dp_app.specs.Knowledge.{Knowledge, asks_nothing}
use Rattle.dp_app.specs.Lawful.{IsBlind, IsLawful}
use Rattle.dp_app.specs.Rows.{Rows, has_row}
use Rattle.dp_app.specs.declared.touch.Touch.{Touch}
use Rattle.dp_flow.specs.Plain.{hangup_row, next_row}
use Rattle.dp_flow.specs.Touches.{nothing, settable, the_frames}
use Rattle.dp_flow.specs.laws.Lawful.{hangup_lawful, next_lawful}
use Rattle.dp_table.specs.Standard.{LawfulTable, standard_table, with_application}
use Rattle.dp_wide.specs.Choices.{everything, exec_if_application, exec_if_title, exec_if_within}
use Rattle.dp_wide.specs.Deleting.{delete_row, delete_tree_row, the_globals}
use Rattle.dp_wide.specs.Going.{with_going, with_going_knowledge, with_going_touch}
use Rattle.dp_wide.specs.Macros.{macro_exit_row, macro_row}
use Rattle.dp_wide.specs.Names.{is_word_of}
use Rattle.dp_wide.specs.Outside.{with_outside, with_outside_knowledge, with_outside_touch}
use Rattle.dp_wide.specs.Requests.{inner_asked}
use Rattle.dp_wide.specs.Settings.{mset_row, set_row}
use Rattle.dp_wide.specs.Subroutines.{gosub_if_row, gosub_row}
use Rattle.dp_wide.specs.TimeChoice.{goto_if_time_row}
use Rattle.dp_wide.specs.laws.Choices.{exec_if_within_lawful, goto_if_time_lawful}
use Rattle.dp_wide.specs.laws.DeletingLawful.{delete_lawful, delete_tree_lawful}
use Rattle.dp_wide.specs.laws.GoingLawful.{with_going_blind, with_going_lawful}
use Rattle.dp_wide.specs.laws.MacrosLawful.{macro_exit_lawful, macro_lawful}
use Rattle.dp_wide.specs.laws.OutsideLawful.{with_outside_blind, with_outside_lawful}
use Rattle.dp_wide.specs.laws.SettingsLawful.{mset_lawful, set_lawful}
use Rattle.dp_wide.specs.laws.SubroutinesLawful.{gosub_if_lawful, gosub_lawful}

-- a table with the applications that go on
abbrev pub going_table : LawfulTable → LawfulTable
going_table table = record {
  touches = with_going_touch table.touches;
  rows = with_going table.rows;
  lawful = with_going_lawful table.touches table.rows table.lawful;
  blind = with_going_blind table.touches table.rows table.blind;
  listed = table.listed;
}

-- a table with the applications that run outside
abbrev pub outside_table : LawfulTable → LawfulTable
outside_table table = record {
  touches = with_outside_touch table.touches;
  rows = with_outside table.rows;
  lawful = with_outside_lawful table.touches table.rows table.lawful;
  blind = with_outside_blind table.touches table.rows table.blind;
  listed = table.listed;
}

-- the table with the applications that this program's twenty-one lack or have in another form, before those that only go on, those that run
-- outside, and the twenty-one
abbrev pub own_table : LawfulTable
own_table =
    with_application (codes "Set") settable set_row set_lawful
    (with_application (codes "MSet") settable mset_row mset_lawful
    (with_application (codes "GotoIfTime") nothing goto_if_time_row goto_if_time_lawful
    (with_application (codes "Gosub") the_frames gosub_row gosub_lawful
    (with_application (codes "GosubIf") the_frames gosub_if_row gosub_if_lawful
    (with_application (codes "Macro") the_frames macro_row macro_lawful
    (with_application (codes "MacroExit") the_frames macro_exit_row macro_exit_lawful
    (with_application (codes "DBdel") the_globals delete_row delete_lawful
    (with_application (codes "DBdeltree") the_globals delete_tree_row delete_tree_lawful
    (going_table (outside_table standard_table))))))))))

-- the whole table without `ExecIf`; the applications that do not look at their arguments come first
unfoldable pub inner_table : LawfulTable
inner_table =
    with_application (codes "NoOp") nothing next_row next_lawful
    (with_application (codes "Verbose") nothing next_row next_lawful
    (with_application (codes "Answer") nothing next_row next_lawful
    (with_application (codes "Hangup") nothing hangup_row hangup_lawful
    (with_application (codes "Busy") nothing hangup_row hangup_lawful
    (with_application (codes "Congestion") nothing hangup_row hangup_lawful own_table)))))

-- the wide table: its `ExecIf` runs what the table runs
unfoldable pub wide_table : LawfulTable
wide_table =
    with_application exec_if_title everything (exec_if_within 8 inner_table.rows)
    (exec_if_within_lawful 8 inner_table.touches inner_table.rows inner_table.lawful) inner_table

-- the row for each of its names
abbrev pub wide_rows : Rows
wide_rows = wide_table.rows

-- what the application with each of its names may change
abbrev pub wide_touches : List ℕ → Touch
wide_touches = wide_table.touches

-- each of its rows keeps the laws
pub wide_lawful : IsLawful wide_touches wide_rows
wide_lawful = wide_table.lawful

-- each of its names is found in each spelling
pub wide_blind : IsBlind wide_touches wide_rows
wide_blind = wide_table.blind

-- the applications that do not look at their arguments, besides those of the other lists
abbrev pub quiet_names : List (List ℕ)
quiet_names =
    codes "NoOp" ∷ codes "Verbose" ∷ codes "Answer" ∷ codes "Hangup" ∷ codes "Busy" ∷ codes "Congestion" ∷ []

-- the table's own applications that look at their arguments
abbrev pub own_names : List (List ℕ)
own_names =
    codes "Set" ∷ codes "MSet" ∷ codes "GotoIfTime" ∷ codes "Gosub" ∷ codes "GosubIf" ∷ codes "Macro" ∷ codes "MacroExit" ∷ codes "DBdel"
    ∷ codes "DBdeltree" ∷ []

-- whether an application other than `ExecIf` looks at its arguments
unfoldable pub inner_looks : List ℕ → Bool
inner_looks name =
    if is_word_of quiet_names name then false
    else (if is_word_of own_names name then true else (with_going_knowledge (with_outside_knowledge asks_nothing)).looks name)

-- whether an application looks at its arguments
abbrev pub wide_looks : List ℕ → Bool
wide_looks name = if same_word name exec_if_title then true else inner_looks name

-- the application that finally runs, and its arguments, if an `ExecIf` may run another and so many may stand inside each other; None if
-- nothing runs
abbrev pub call_in_the_end : ℕ → List ℕ → List ℕ → Option (List ℕ × List ℕ)
call_in_the_end zero name arguments = if same_word name exec_if_title then None else Some (name, arguments)
call_in_the_end (suc more) name arguments =
    if same_word name exec_if_title then option_and_then (λ call. call_in_the_end more call.0 call.1) (exec_if_application arguments)
    else Some (name, arguments)

-- what the application that finally runs asks for: itself if the table lacks it
abbrev pub call_asked : Sight → Option (List ℕ × List ℕ) → List ℕ
call_asked sight None = []
call_asked sight (Some call) =
    if has_row inner_table.rows call.0
    then (if inner_looks call.0 then inner_asked sight call.0 call.1 else [])
    else call.0

-- the unknown things that an application asks for with its arguments
unfoldable pub wide_asks : Sight → List ℕ → List ℕ → List ℕ
wide_asks sight name arguments = call_asked sight (call_in_the_end 8 name arguments)

-- the knowledge of the wide table
abbrev pub wide_knowledge : Knowledge
wide_knowledge = record { looks = wide_looks; asks = wide_asks }
