-- The applications of the wide table that are found by number, each at its place.
use Rattle.std.specs.Prelude.{List, [], ◌∷◌, codes}
use Rattle.dp_app.specs.Listed.{Listed, with_listed}
use Rattle.dp_app.specs.Rows.{Rows}
use Rattle.dp_app.specs.Tables.{no_rows, with_row}
use Rattle.dp_flow.specs.Dialling.{dial_row}
use Rattle.dp_flow.specs.Jumps.{goto_row, goto_if_row, return_row, stack_pop_row}
use Rattle.dp_flow.specs.Plain.{hangup_row, next_row}
use Rattle.dp_flow.specs.Waiting.{background_row, wait_row, wait_exten_row}
use Rattle.dp_qapps.specs.Membership.{add_member_row, remove_member_row}
use Rattle.dp_qapps.specs.Pausing.{pause_member_row, unpause_member_row}
use Rattle.dp_qapps.specs.Queueing.{queue_row}
use Rattle.dp_wide.specs.Deleting.{delete_row, delete_tree_row}
use Rattle.dp_wide.specs.Macros.{macro_exit_row, macro_row}
use Rattle.dp_wide.specs.Settings.{mset_row, set_row}
use Rattle.dp_wide.specs.Subroutines.{gosub_if_row, gosub_row}
use Rattle.dp_wide.specs.TimeChoice.{goto_if_time_row}

-- the table of a list of applications
abbrev pub rows_of : List Listed → Rows
rows_of [] = no_rows
rows_of (a ∷ rest) = with_row a.title a.meaning (rows_of rest)

-- the placed applications
unfoldable pub placed_applications : List Listed
placed_applications =
    with_listed (codes "NoOp") next_row
    (with_listed (codes "Goto") goto_row
    (with_listed (codes "Set") set_row
    (with_listed (codes "GotoIf") goto_if_row
    (with_listed (codes "MSet") mset_row
    (with_listed (codes "GotoIfTime") goto_if_time_row
    (with_listed (codes "DBdel") delete_row
    (with_listed (codes "DBdeltree") delete_tree_row
    (with_listed (codes "Gosub") gosub_row
    (with_listed (codes "GosubIf") gosub_if_row
    (with_listed (codes "Return") return_row
    (with_listed (codes "StackPop") stack_pop_row
    (with_listed (codes "Macro") macro_row
    (with_listed (codes "MacroExit") macro_exit_row
    (with_listed (codes "Answer") next_row
    (with_listed (codes "Hangup") hangup_row
    (with_listed (codes "Verbose") next_row
    (with_listed (codes "Playback") next_row
    (with_listed (codes "Busy") hangup_row
    (with_listed (codes "Congestion") hangup_row
    (with_listed (codes "Wait") wait_row
    (with_listed (codes "WaitExten") wait_exten_row
    (with_listed (codes "Background") background_row
    (with_listed (codes "Dial") dial_row
    (with_listed (codes "Queue") queue_row
    (with_listed (codes "AddQueueMember") add_member_row
    (with_listed (codes "RemoveQueueMember") remove_member_row
    (with_listed (codes "PauseQueueMember") pause_member_row
    (with_listed (codes "UnpauseQueueMember") unpause_member_row []))))))))))))))))))))))))))))
