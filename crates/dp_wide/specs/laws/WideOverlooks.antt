-- The applications of the wide table that do not look at their arguments do the same with any of them.
use Rattle.std.specs.Prelude.{◌≡◌, ℕ, Bool, true, false, ◌||◌, List, Option, Some, if◌then◌else◌, refl, codes}
use Rattle.std.proofs.Common.{subst}
use Rattle.std.proofs.lemmas.Option.{same_Some}
use Rattle.dp_conf.specs.Words.{same_word}
use Rattle.dp_app.specs.Cells.{CellOf}
use Rattle.dp_app.specs.Knowledge.{Overlooks, all_look, asks_nothing}
use Rattle.dp_app.specs.Rows.{Row}
use Rattle.dp_flow.specs.Plain.{hangup_row, next_row}
use Rattle.dp_table.specs.Standard.{standard_rows}
use Rattle.dp_wide.specs.Choices.{exec_if_title, exec_if_within}
use Rattle.dp_wide.specs.Deleting.{delete_row, delete_tree_row}
use Rattle.dp_wide.specs.Going.{with_going, with_going_knowledge}
use Rattle.dp_wide.specs.Macros.{macro_exit_row, macro_row}
use Rattle.dp_wide.specs.Names.{is_word_of}
use Rattle.dp_wide.specs.Outside.{with_outside, with_outside_knowledge}
use Rattle.dp_wide.specs.Settings.{mset_row, set_row}
use Rattle.dp_wide.specs.Subroutines.{gosub_if_row, gosub_row}
use Rattle.dp_wide.specs.TimeChoice.{goto_if_time_row}
use Rattle.dp_wide.specs.Wide.{inner_looks, inner_table, own_names, own_table, quiet_names, wide_looks, wide_rows, wide_table}
use Rattle.dp_wide.specs.laws.GoingLawful.{with_going_overlooks}
use Rattle.dp_wide.specs.laws.OutsideLawful.{with_outside_overlooks}

true_is_false : true ≡ false → ⊥
true_is_false e = cc

-- a row is the same with any arguments
abbrev IsQuiet : Row → Type 0
IsQuiet row = (first second : List ℕ) (cell : CellOf) → row first cell ≡ row second cell

next_quiet : IsQuiet next_row
next_quiet first second cell = refl

hangup_quiet : IsQuiet hangup_row
hangup_quiet first second cell = refl

-- the rows that come first, given the tests of their names
quiet_rows : (a b c d e f : Bool) (rest : Option Row) (row : Row)
    → (if a then Some next_row else (if b then Some next_row else (if c then Some next_row
    else (if d then Some hangup_row else (if e then Some hangup_row else (if f then Some hangup_row else rest)))))) ≡ Some row
    → (a || (b || (c || (d || (e || (f || false)))))) ≡ true → IsQuiet row
quiet_rows true b c d e f rest row there one = subst IsQuiet (same_Some next_row row there) next_quiet
quiet_rows false true c d e f rest row there one = subst IsQuiet (same_Some next_row row there) next_quiet
quiet_rows false false true d e f rest row there one = subst IsQuiet (same_Some next_row row there) next_quiet
quiet_rows false false false true e f rest row there one = subst IsQuiet (same_Some hangup_row row there) hangup_quiet
quiet_rows false false false false true f rest row there one = subst IsQuiet (same_Some hangup_row row there) hangup_quiet
quiet_rows false false false false false true rest row there one = subst IsQuiet (same_Some hangup_row row there) hangup_quiet
quiet_rows false false false false false false rest row there one = absurd (cc)

-- a name that is none of theirs has the row of the table behind them
behind_quiet : (a b c d e f : Bool) (rest : Option Row) (row : Row)
    → (if a then Some next_row else (if b then Some next_row else (if c then Some next_row
    else (if d then Some hangup_row else (if e then Some hangup_row else (if f then Some hangup_row else rest)))))) ≡ Some row
    → (a || (b || (c || (d || (e || (f || false)))))) ≡ false → rest ≡ Some row
behind_quiet true b c d e f rest row there none = absurd (true_is_false none)
behind_quiet false true c d e f rest row there none = absurd (true_is_false none)
behind_quiet false false true d e f rest row there none = absurd (true_is_false none)
behind_quiet false false false true e f rest row there none = absurd (true_is_false none)
behind_quiet false false false false true f rest row there none = absurd (true_is_false none)
behind_quiet false false false false false true rest row there none = absurd (true_is_false none)
behind_quiet false false false false false false rest row there none = there

-- a name that is none of the table's own has the row of the table behind them
behind_own : (a b c d e f g h i : Bool) (rest : Option Row) (row : Row)
    → (if a then Some set_row else (if b then Some mset_row else (if c then Some goto_if_time_row
    else (if d then Some gosub_row else (if e then Some gosub_if_row else (if f then Some macro_row
    else (if g then Some macro_exit_row else (if h then Some delete_row else (if i then Some delete_tree_row else rest))))))))) ≡ Some row
    → (a || (b || (c || (d || (e || (f || (g || (h || (i || false))))))))) ≡ false → rest ≡ Some row
behind_own true b c d e f g h i rest row there none = absurd (true_is_false none)
behind_own false true c d e f g h i rest row there none = absurd (true_is_false none)
behind_own false false true d e f g h i rest row there none = absurd (true_is_false none)
behind_own false false false true e f g h i rest row there none = absurd (true_is_false none)
behind_own false false false false true f g h i rest row there none = absurd (true_is_false none)
behind_own false false false false false true g h i rest row there none = absurd (true_is_false none)
behind_own false false false false false false true h i rest row there none = absurd (true_is_false none)
behind_own false false false false false false false true i rest row there none = absurd (true_is_false none)
behind_own false false false false false false false false true rest row there none = absurd (true_is_false none)
behind_own false false false false false false false false false rest row there none = there

-- the tables behind the table's own
listed_overlooks : Overlooks (with_going_knowledge (with_outside_knowledge asks_nothing)).looks (with_going (with_outside standard_rows))
listed_overlooks =
    with_going_overlooks (with_outside_knowledge asks_nothing) (with_outside standard_rows)
    (with_outside_overlooks asks_nothing standard_rows (all_look standard_rows))

own_case : (name : List ℕ) (row : Row) → own_table.rows name ≡ Some row → (b : Bool) → is_word_of own_names name ≡ b
    → (if b then true else (with_going_knowledge (with_outside_knowledge asks_nothing)).looks name) ≡ false → IsQuiet row
own_case name row there true tied looks = absurd (true_is_false looks)
own_case name row there false tied looks =
    listed_overlooks name row
    (behind_own (same_word name (codes "Set")) (same_word name (codes "MSet")) (same_word name (codes "GotoIfTime"))
    (same_word name (codes "Gosub")) (same_word name (codes "GosubIf")) (same_word name (codes "Macro"))
    (same_word name (codes "MacroExit")) (same_word name (codes "DBdel")) (same_word name (codes "DBdeltree")) (with_going (with_outside standard_rows) name) row there tied) looks

inner_case : (name : List ℕ) (row : Row) → inner_table.rows name ≡ Some row → (b : Bool) → is_word_of quiet_names name ≡ b
    → (if b then false else (if is_word_of own_names name then true else (with_going_knowledge (with_outside_knowledge asks_nothing)).looks name)) ≡ false
    → IsQuiet row
unfolding inner_table
inner_case name row there true tied looks =
    quiet_rows (same_word name (codes "NoOp")) (same_word name (codes "Verbose")) (same_word name (codes "Answer"))
    (same_word name (codes "Hangup")) (same_word name (codes "Busy")) (same_word name (codes "Congestion")) (own_table.rows name) row there tied
inner_case name row there false tied looks =
    own_case name row
    (behind_quiet (same_word name (codes "NoOp")) (same_word name (codes "Verbose")) (same_word name (codes "Answer"))
    (same_word name (codes "Hangup")) (same_word name (codes "Busy")) (same_word name (codes "Congestion")) (own_table.rows name) row there tied)
    (is_word_of own_names name) refl looks

inner_overlooks : Overlooks inner_looks inner_table.rows
unfolding inner_looks
inner_overlooks name row there looks = inner_case name row there (is_word_of quiet_names name) refl looks

wide_case : (name : List ℕ) (row : Row) (b : Bool) → (if b then Some (exec_if_within 8 inner_table.rows) else inner_table.rows name) ≡ Some row
    → (if b then true else inner_looks name) ≡ false → IsQuiet row
wide_case name row true there looks = absurd (true_is_false looks)
wide_case name row false there looks = inner_overlooks name row there looks

-- the applications that do not look at their arguments do the same with any of them
pub wide_overlooks : Overlooks wide_looks wide_rows
unfolding wide_table
wide_overlooks name row there looks = wide_case name row (same_word name exec_if_title) there looks
