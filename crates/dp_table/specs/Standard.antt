-- The table of the applications that this program has.
use Rattle.std.specs.Prelude.{ℕ, List, [], codes}
use Rattle.dp_app.specs.Lawful.{IsBlind, IsLawful, IsLawfulRow}
use Rattle.dp_app.specs.Listed.{Listed, with_listed}
use Rattle.dp_app.specs.Rows.{Meanings, Row, Rows, with_standard_functions}
use Rattle.dp_app.specs.Tables.{no_rows, no_rows_blind, no_rows_lawful, no_touch, with_row, with_row_blind, with_row_lawful, with_touch}
use Rattle.dp_app.specs.declared.touch.Touch.{Touch}
use Rattle.dp_flow.specs.Dialling.{dial_row}
use Rattle.dp_flow.specs.Jumps.{goto_row, goto_if_row, gosub_row, gosub_if_row, return_row, stack_pop_row}
use Rattle.dp_flow.specs.laws.Lawful.{dial_lawful, goto_lawful, goto_if_lawful, gosub_lawful, gosub_if_lawful, hangup_lawful, next_lawful, return_lawful, set_lawful, stack_pop_lawful, wait_lawful, wait_exten_lawful, background_lawful}
use Rattle.dp_flow.specs.Plain.{hangup_row, next_row}
use Rattle.dp_flow.specs.Settings.{set_row}
use Rattle.dp_flow.specs.Touches.{nothing, settable, the_frames, the_variables, variables_and_frames}
use Rattle.dp_flow.specs.Waiting.{background_row, wait_row, wait_exten_row}
use Rattle.dp_qapps.specs.laws.Lawful.{add_member_lawful, pause_member_lawful, queue_lawful, remove_member_lawful, unpause_member_lawful}
use Rattle.dp_qapps.specs.Membership.{add_member_row, remove_member_row}
use Rattle.dp_qapps.specs.Pausing.{pause_member_row, unpause_member_row}
use Rattle.dp_qapps.specs.Queueing.{queue_row}
use Rattle.dp_qapps.specs.Touches.{variables_and_members, variables_and_waiting}

-- a table: the row of each name, what each may change, that each row keeps the laws with that, that names have no case, and the
-- applications in their order
pub record LawfulTable : Type 0 where
  pub touches : List ℕ → Touch
  pub rows : Rows
  pub lawful : IsLawful touches rows
  pub blind : IsBlind touches rows
  pub listed : List Listed

-- the table with no name
abbrev pub no_table : LawfulTable
no_table = record { touches = no_touch; rows = no_rows; lawful = no_rows_lawful; blind = no_rows_blind; listed = [] }

-- a table with one more application: its name, what it may change, its row, and that the row keeps the laws
abbrev pub with_application : (title : List ℕ) (touch : Touch) (row : Row) → IsLawfulRow touch row → LawfulTable → LawfulTable
with_application title touch row lawful table = record {
  touches = with_touch title touch table.touches;
  rows = with_row title row table.rows;
  lawful = with_row_lawful title touch row table.touches table.rows lawful table.lawful;
  blind = with_row_blind title touch row table.touches table.rows table.blind;
  listed = with_listed title row table.listed;
}

-- the table of this program
unfoldable pub standard_table : LawfulTable
standard_table =
    with_application (codes "NoOp") nothing next_row next_lawful
    (with_application (codes "Goto") nothing goto_row goto_lawful
    (with_application (codes "Set") settable set_row set_lawful
    (with_application (codes "GotoIf") nothing goto_if_row goto_if_lawful
    (with_application (codes "Gosub") the_frames gosub_row gosub_lawful
    (with_application (codes "GosubIf") the_frames gosub_if_row gosub_if_lawful
    (with_application (codes "Return") variables_and_frames return_row return_lawful
    (with_application (codes "StackPop") the_frames stack_pop_row stack_pop_lawful
    (with_application (codes "Answer") nothing next_row next_lawful
    (with_application (codes "Hangup") nothing hangup_row hangup_lawful
    (with_application (codes "Verbose") nothing next_row next_lawful
    (with_application (codes "Playback") nothing next_row next_lawful
    (with_application (codes "Wait") nothing wait_row wait_lawful
    (with_application (codes "WaitExten") nothing wait_exten_row wait_exten_lawful
    (with_application (codes "Background") nothing background_row background_lawful
    (with_application (codes "Dial") the_variables dial_row dial_lawful
    (with_application (codes "Queue") variables_and_waiting queue_row queue_lawful
    (with_application (codes "AddQueueMember") variables_and_members add_member_row add_member_lawful
    (with_application (codes "RemoveQueueMember") variables_and_members remove_member_row remove_member_lawful
    (with_application (codes "PauseQueueMember") variables_and_members pause_member_row pause_member_lawful
    (with_application (codes "UnpauseQueueMember") variables_and_members unpause_member_row unpause_member_lawful no_table))))))))))))))))))))

-- the row of each of its names
abbrev pub standard_rows : Rows
standard_rows = standard_table.rows

-- these rows, with the functions of this program
abbrev pub standard_meanings : Meanings
standard_meanings = with_standard_functions standard_rows

-- what the application of each of its names may change
abbrev pub standard_touches : List ℕ → Touch
standard_touches = standard_table.touches

-- each of its rows keeps the laws
pub standard_lawful : IsLawful standard_touches standard_rows
standard_lawful = standard_table.lawful

-- each of its names has each of its spellings
pub standard_blind : IsBlind standard_touches standard_rows
standard_blind = standard_table.blind
