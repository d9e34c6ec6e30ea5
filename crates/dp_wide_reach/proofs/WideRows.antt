-- Each row of the wide table stays inside if what it owes is met.
use Rattle.std.proofs.Common.{ℕ, Bool, true, false, List, [], codes, is_some, sym, subst, if◌then◌else◌, unwrap_or}
use Rattle.dp_app.specs.Rows.{Row, Rows}
use Rattle.dp_table.specs.Standard.{standard_rows}
use Rattle.dp_wide.specs.Choices.{exec_if_title}
use Rattle.dp_wide.specs.Going.{goes_on}
use Rattle.dp_wide.specs.Names.{with_named}
use Rattle.dp_wide.specs.Outside.{is_outside, is_read, outside_row, outside_statuses, row_outside}
use Rattle.dp_wide.specs.Wide.{inner_table, own_table, wide_rows, wide_table}
use Rattle.dp_reach.specs.Bounds.{AreBounded, Duties, IsBounded, nothing_owed}
use Rattle.dp_reach.specs.Standard.{standard_duties}
use Rattle.dp_reach.proofs.PlainRows.{hangup-bounded, next-bounded}
use Rattle.dp_reach.proofs.StandardRows.{bounded-by, row-bounded, standard-bounded}
use Rattle.dp_wide_reach.specs.Choices.{anything_owed}
use Rattle.dp_wide_reach.specs.Settings.{read_duties}
use Rattle.dp_wide_reach.specs.Wide.{inner_duties, outside_duties, own_duties, unless_lacking, wide_duties, with_named_duties}
use Rattle.dp_wide_reach.proofs.ExecIfRows.{exec_if-bounded}
use Rattle.dp_wide_reach.proofs.PlainRows.{delete-bounded, delete_tree-bounded, macro_exit-bounded, outside-bounded, read-bounded}
use Rattle.dp_wide_reach.proofs.SettingRows.{mset-bounded, wide_set-bounded}
use Rattle.dp_wide_reach.proofs.SideRows.{goto_if_time-bounded}
use Rattle.dp_wide_reach.proofs.SubroutineRows.{counted_gosub-bounded, counted_gosub_if-bounded, macro-bounded}

-- the names of a kind before others
named-bounded : (is_named : List ℕ → Bool) (own : List ℕ → Duties) (row_of : List ℕ → Row) (duties : List ℕ → Duties) (rows : Rows)
    → ((name : List ℕ) → IsBounded (own name) (row_of name)) → AreBounded duties rows → AreBounded (with_named_duties is_named own duties) (with_named is_named row_of rows)
named-bounded is_named own row_of duties rows here there name row is =
    bounded-by (is_named name) (own name) (row_of name) (duties name) (rows name) row (here name) (there name) is

-- the names of a table, and others, of which nothing is known
lacking-bounded : (duties : List ℕ → Duties) (rows : Rows) → AreBounded duties rows → AreBounded (unless_lacking rows duties) rows
lacking-bounded duties rows bounded name row is =
    subst (λ o. IsBounded (if is_some o then duties name else anything_owed) row) (sym is) (bounded name row is)

-- an application that runs outside
run_outside-bounded : (name : List ℕ) → IsBounded (outside_duties name) (row_outside name)
run_outside-bounded name = by (is_read name)
  where
    by : (reads : Bool) → IsBounded (if reads then read_duties else nothing_owed) (outside_row (unwrap_or (outside_statuses name) []) reads)
    by true = read-bounded (unwrap_or (outside_statuses name) [])
    by false = outside-bounded (unwrap_or (outside_statuses name) [])

own-bounded : AreBounded own_duties own_table.rows
own-bounded =
    row-bounded (codes "Set") _ _ _ _ wide_set-bounded
    (row-bounded (codes "MSet") _ _ _ _ mset-bounded
    (row-bounded (codes "GotoIfTime") _ _ _ _ goto_if_time-bounded
    (row-bounded (codes "Gosub") _ _ _ _ counted_gosub-bounded
    (row-bounded (codes "GosubIf") _ _ _ _ counted_gosub_if-bounded
    (row-bounded (codes "Macro") _ _ _ _ macro-bounded
    (row-bounded (codes "MacroExit") _ _ _ _ macro_exit-bounded
    (row-bounded (codes "DBdel") _ _ _ _ delete-bounded
    (row-bounded (codes "DBdeltree") _ _ _ _ delete_tree-bounded
    (named-bounded goes_on (λ name. nothing_owed) _ _ _ (λ name. next-bounded)
    (named-bounded is_outside outside_duties row_outside _ _ run_outside-bounded (lacking-bounded standard_duties standard_rows standard-bounded)))))))))))

inner-bounded : AreBounded inner_duties inner_table.rows
unfolding inner_duties inner_table
inner-bounded =
    row-bounded (codes "NoOp") _ _ _ _ next-bounded
    (row-bounded (codes "Verbose") _ _ _ _ next-bounded
    (row-bounded (codes "Answer") _ _ _ _ next-bounded
    (row-bounded (codes "Hangup") _ _ _ _ hangup-bounded
    (row-bounded (codes "Busy") _ _ _ _ hangup-bounded
    (row-bounded (codes "Congestion") _ _ _ _ hangup-bounded own-bounded)))))

pub wide-bounded : AreBounded wide_duties wide_rows
unfolding wide_duties wide_table
wide-bounded = row-bounded exec_if_title _ _ inner_duties inner_table.rows (exec_if-bounded 8 inner_duties inner_table.rows inner-bounded) inner-bounded
