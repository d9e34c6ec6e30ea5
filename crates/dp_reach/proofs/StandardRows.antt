-- Each row of this program's table stays inside if what it owes is met.
use Rattle.std.proofs.Common.{◌≡◌, ℕ, Bool, true, false, List, Option, Some, codes, subst, if◌then◌else◌}
use Rattle.std.proofs.lemmas.Option.{none-some, same_Some}
use Rattle.dp_conf.specs.Words.{same_word}
use Rattle.dp_app.specs.Rows.{Row, Rows}
use Rattle.dp_app.specs.Tables.{no_rows, with_row}
use Rattle.dp_table.specs.Standard.{standard_rows, standard_table}
use Rattle.dp_reach.specs.Bounds.{AreBounded, Duties, IsBounded}
use Rattle.dp_reach.specs.Standard.{no_names, standard_duties, with_duties}
use Rattle.dp_reach.proofs.CallRows.{gosub-bounded, gosub_if-bounded}
use Rattle.dp_reach.proofs.ChoiceRows.{goto_if-bounded}
use Rattle.dp_reach.proofs.PlainRows.{add_member-bounded, background-bounded, dial-bounded, hangup-bounded, next-bounded, pause_member-bounded, queue-bounded, remove_member-bounded, return-bounded, stack_pop-bounded, unpause_member-bounded, wait-bounded, wait_exten-bounded}
use Rattle.dp_reach.proofs.GotoRow.{goto-bounded}
use Rattle.dp_reach.proofs.SetRow.{set-bounded}

none-bounded : AreBounded no_names no_rows
none-bounded name row is = absurd (none-some row is)

pub bounded-by : (b : Bool) (own : Duties) (meaning : Row) (duties : Duties) (rows : Option Row) (row : Row) → IsBounded own meaning → ((r : Row) → rows ≡ Some r → IsBounded duties r)
    → (if b then Some meaning else rows) ≡ Some row → IsBounded (if b then own else duties) row
bounded-by true own meaning duties rows row here there is = subst (IsBounded own) (same_Some meaning row is) here
bounded-by false own meaning duties rows row here there is = there row is

pub row-bounded : (title : List ℕ) (own : Duties) (meaning : Row) (duties : List ℕ → Duties) (rows : Rows) → IsBounded own meaning → AreBounded duties rows
    → AreBounded (with_duties title own duties) (with_row title meaning rows)
row-bounded title own meaning duties rows here there name row is = bounded-by (same_word name title) own meaning (duties name) (rows name) row here (there name) is

pub standard-bounded : AreBounded standard_duties standard_rows
unfolding standard_duties standard_table
standard-bounded =
    row-bounded (codes "NoOp") _ _ _ _ next-bounded
    (row-bounded (codes "Goto") _ _ _ _ goto-bounded
    (row-bounded (codes "Set") _ _ _ _ set-bounded
    (row-bounded (codes "GotoIf") _ _ _ _ goto_if-bounded
    (row-bounded (codes "Gosub") _ _ _ _ gosub-bounded
    (row-bounded (codes "GosubIf") _ _ _ _ gosub_if-bounded
    (row-bounded (codes "Return") _ _ _ _ return-bounded
    (row-bounded (codes "StackPop") _ _ _ _ stack_pop-bounded
    (row-bounded (codes "Answer") _ _ _ _ next-bounded
    (row-bounded (codes "Hangup") _ _ _ _ hangup-bounded
    (row-bounded (codes "Verbose") _ _ _ _ next-bounded
    (row-bounded (codes "Playback") _ _ _ _ next-bounded
    (row-bounded (codes "Wait") _ _ _ _ wait-bounded
    (row-bounded (codes "WaitExten") _ _ _ _ wait_exten-bounded
    (row-bounded (codes "Background") _ _ _ _ background-bounded
    (row-bounded (codes "Dial") _ _ _ _ dial-bounded
    (row-bounded (codes "Queue") _ _ _ _ queue-bounded
    (row-bounded (codes "AddQueueMember") _ _ _ _ add_member-bounded
    (row-bounded (codes "RemoveQueueMember") _ _ _ _ remove_member-bounded
    (row-bounded (codes "PauseQueueMember") _ _ _ _ pause_member-bounded
    (row-bounded (codes "UnpauseQueueMember") _ _ _ _ unpause_member-bounded none-bounded))))))))))))))))))))
