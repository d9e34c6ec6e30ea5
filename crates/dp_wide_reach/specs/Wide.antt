-- The duties of the applications of the wide table.
use Rattle.std.specs.Prelude.{ℕ, Bool, List, codes, if◌then◌else◌}
use Rattle.dp_app.specs.Rows.{Rows, has_row}
use Rattle.dp_table.specs.Standard.{standard_rows}
use Rattle.dp_wide.specs.Choices.{exec_if_title}
use Rattle.dp_wide.specs.Going.{goes_on}
use Rattle.dp_wide.specs.Outside.{is_outside, is_read}
use Rattle.dp_reach.specs.Bounds.{Duties, nothing_owed, goto_if_duties}
use Rattle.dp_reach.specs.Standard.{standard_duties, with_duties}
use Rattle.dp_wide_reach.specs.Choices.{anything_owed, exec_if_duties}
use Rattle.dp_wide_reach.specs.Settings.{delete_tree_duties, mset_duties, read_duties, wide_set_duties}
use Rattle.dp_wide_reach.specs.Subroutines.{counted_gosub_duties, counted_gosub_if_duties, macro_duties}

-- the duties of the names of a kind, before those of other names
abbrev pub with_named_duties : (List ℕ → Bool) → (List ℕ → Duties) → (List ℕ → Duties) → List ℕ → Duties
with_named_duties is_named own duties name = if is_named name then own name else duties name

-- the duties of the names of a table; of what an application that it lacks does nothing is known
abbrev pub unless_lacking : Rows → (List ℕ → Duties) → List ℕ → Duties
unless_lacking rows duties name = if has_row rows name then duties name else anything_owed

-- the duties of the applications that only go on, and of those that run outside
abbrev pub with_going_duties : (List ℕ → Duties) → List ℕ → Duties
with_going_duties duties = with_named_duties goes_on (λ name. nothing_owed) duties

abbrev pub outside_duties : List ℕ → Duties
outside_duties name = if is_read name then read_duties else nothing_owed

abbrev pub with_outside_duties : (List ℕ → Duties) → List ℕ → Duties
with_outside_duties duties = with_named_duties is_outside outside_duties duties

-- the duties of each name of the table's own
abbrev pub own_duties : List ℕ → Duties
own_duties =
    with_duties (codes "Set") wide_set_duties
    (with_duties (codes "MSet") mset_duties
    (with_duties (codes "GotoIfTime") goto_if_duties
    (with_duties (codes "Gosub") counted_gosub_duties
    (with_duties (codes "GosubIf") counted_gosub_if_duties
    (with_duties (codes "Macro") macro_duties
    (with_duties (codes "MacroExit") nothing_owed
    (with_duties (codes "DBdel") nothing_owed
    (with_duties (codes "DBdeltree") delete_tree_duties
    (with_going_duties (with_outside_duties (unless_lacking standard_rows standard_duties)))))))))))

-- the duties of each name but `ExecIf`
unfoldable pub inner_duties : List ℕ → Duties
inner_duties =
    with_duties (codes "NoOp") nothing_owed
    (with_duties (codes "Verbose") nothing_owed
    (with_duties (codes "Answer") nothing_owed
    (with_duties (codes "Hangup") nothing_owed
    (with_duties (codes "Busy") nothing_owed
    (with_duties (codes "Congestion") nothing_owed own_duties)))))

-- the duties of each name
unfoldable pub wide_duties : List ℕ → Duties
wide_duties = with_duties exec_if_title (exec_if_duties 8 inner_duties) inner_duties
