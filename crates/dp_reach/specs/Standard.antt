-- The duties of the applications of this program's table.
use Rattle.std.specs.Prelude.{ℕ, List, codes, if◌then◌else◌}
use Rattle.dp_conf.specs.Words.{same_word}
use Rattle.dp_vars.specs.Values.{standard_functions}
use Rattle.dp_reach.specs.Bounds.{Duties, Obligations, obligations, add_duties, dial_duties, digits_duties, gosub_duties, gosub_if_duties, goto_duties, goto_if_duties, nothing_owed, pause_duties, queue_duties, remove_duties, return_duties, unpause_duties}
use Rattle.dp_reach.specs.Settings.{set_duties}

-- the duties with those of one more application, which is named in any ASCII case
abbrev pub with_duties : List ℕ → Duties → (List ℕ → Duties) → List ℕ → Duties
with_duties title own duties name = if same_word name title then own else duties name

-- the duties of a name that the table lacks: the call ends there; a table that does anything else for such names has duties of its own
abbrev pub no_names : List ℕ → Duties
no_names name = nothing_owed

-- the duties of each name
unfoldable pub standard_duties : List ℕ → Duties
standard_duties =
    with_duties (codes "NoOp") nothing_owed
    (with_duties (codes "Goto") goto_duties
    (with_duties (codes "Set") set_duties
    (with_duties (codes "GotoIf") goto_if_duties
    (with_duties (codes "Gosub") gosub_duties
    (with_duties (codes "GosubIf") gosub_if_duties
    (with_duties (codes "Return") return_duties
    (with_duties (codes "StackPop") nothing_owed
    (with_duties (codes "Answer") nothing_owed
    (with_duties (codes "Hangup") nothing_owed
    (with_duties (codes "Verbose") nothing_owed
    (with_duties (codes "Playback") nothing_owed
    (with_duties (codes "Wait") nothing_owed
    (with_duties (codes "WaitExten") digits_duties
    (with_duties (codes "Background") digits_duties
    (with_duties (codes "Dial") dial_duties
    (with_duties (codes "Queue") queue_duties
    (with_duties (codes "AddQueueMember") add_duties
    (with_duties (codes "RemoveQueueMember") remove_duties
    (with_duties (codes "PauseQueueMember") pause_duties
    (with_duties (codes "UnpauseQueueMember") unpause_duties no_names))))))))))))))))))))

-- what is known of the entries of a dialplan over this table
abbrev pub standard_obligations : Obligations
standard_obligations = obligations standard_functions standard_duties
