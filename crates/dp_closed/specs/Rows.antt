-- The parts of the table of duties. No public clause depends on them.
use Rattle.std.specs.Prelude.{◌≡◌, ℕ, List, codes}
use Rattle.dp_closed.specs.declared.rows.Row as rust
use Rattle.dp_closed.specs.declared.rows.Row.TheVariants.{Nothing, Goto, Set, GotoIf, Gosub, GosubIf, Return, Digits, Dial, Queue, Add, Remove, Pause, Unpause}
use Rattle.dp_pieces.specs.Pieces.{PieceOf}
use Rattle.dp_reach.specs.Areas.{Area}
use Rattle.dp_reach.specs.Bounds.{Duties, add_duties, dial_duties, digits_duties, gosub_duties, gosub_if_duties, goto_duties, goto_if_duties, nothing_owed, pause_duties, queue_duties, remove_duties, return_duties, unpause_duties}
use Rattle.dp_reach.specs.Settings.{set_duties}
use Rattle.dp_reach.specs.Standard.{no_names, with_duties}

-- the duties of a row
abbrev pub shown_row : rust.Row → Duties
shown_row Nothing = nothing_owed
shown_row Goto = goto_duties
shown_row Set = set_duties
shown_row GotoIf = goto_if_duties
shown_row Gosub = gosub_duties
shown_row GosubIf = gosub_if_duties
shown_row Return = return_duties
shown_row Digits = digits_duties
shown_row Dial = dial_duties
shown_row Queue = queue_duties
shown_row Add = add_duties
shown_row Remove = remove_duties
shown_row Pause = pause_duties
shown_row Unpause = unpause_duties

-- the duties are the same for these pieces and for any others
abbrev pub IsOwedAlike : Duties → List PieceOf → List PieceOf → Type 0
IsOwedAlike duties pieces other = (area : Area) → duties area pieces ≡ duties area other

abbrev pub IsSteady : Duties → Type 0
IsSteady duties = (pieces other : List PieceOf) → IsOwedAlike duties pieces other

-- the duties of the rows on members
abbrev pub member_duties : List ℕ → Duties
member_duties =
    with_duties (codes "AddQueueMember") add_duties
    (with_duties (codes "RemoveQueueMember") remove_duties
    (with_duties (codes "PauseQueueMember") pause_duties
    (with_duties (codes "UnpauseQueueMember") unpause_duties no_names)))

-- these duties, and those of rows that wait
abbrev pub waiting_duties : List ℕ → Duties
waiting_duties =
    with_duties (codes "Wait") nothing_owed
    (with_duties (codes "WaitExten") digits_duties
    (with_duties (codes "Background") digits_duties
    (with_duties (codes "Dial") dial_duties
    (with_duties (codes "Queue") queue_duties member_duties))))

-- these duties, and those of rows that answer, end the call, or play or print nothing here
abbrev pub silent_duties : List ℕ → Duties
silent_duties =
    with_duties (codes "Answer") nothing_owed
    (with_duties (codes "Hangup") nothing_owed
    (with_duties (codes "Verbose") nothing_owed
    (with_duties (codes "Playback") nothing_owed waiting_duties)))

-- these duties, and those of rows that enter and leave subroutines
abbrev pub calling_duties : List ℕ → Duties
calling_duties =
    with_duties (codes "Gosub") gosub_duties
    (with_duties (codes "GosubIf") gosub_if_duties
    (with_duties (codes "Return") return_duties
    (with_duties (codes "StackPop") nothing_owed silent_duties)))
