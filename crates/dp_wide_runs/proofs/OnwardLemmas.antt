-- The applications after which an audit follows an endless run go on to the next priority.
use Rattle.std.proofs.Common.{◌≡◌, ℕ, Bool, true, false, ◌||◌, List, Some, refl, subst}
use Rattle.std.specs.Prelude.{codes}
use Rattle.dp_conf.specs.Words.{same_word}
use Rattle.dp_app.specs.Cells.{CellOf}
use Rattle.dp_app.specs.Rows.{after_dispatch}
use Rattle.dp_app.specs.declared.moves.Move.TheVariants.{Next}
use Rattle.dp_table.specs.Standard.{standard_table}
use Rattle.dp_wide.specs.Going.{going_names}
use Rattle.dp_wide.specs.Outside.{outside_applications}
use Rattle.dp_wide.specs.Settings.{mset_row, set_row}
use Rattle.dp_wide.specs.Wide.{inner_table, wide_blind, wide_rows, wide_table}
use Rattle.dp_wide_runs.specs.WideFindings.{goes_on_at_once}

-- the wide table goes on after the application with a name
abbrev GoesOn : List ℕ → Type 0
GoesOn name = (arguments : List ℕ) (cell : CellOf) → (after_dispatch (wide_rows name) arguments cell).1 ≡ Some Next

-- a name in another case has the same row
same_in_any_case : (name word : List ℕ) → same_word name word ≡ true → GoesOn word → GoesOn name
same_in_any_case name word same goes arguments cell =
    subst (λ row. (after_dispatch row arguments cell).1 ≡ Some Next) (wide_blind.row name word same) (goes arguments cell)

-- a name that is one word, or passes another test
either : (name word : List ℕ) (rest : Bool) → GoesOn word → (rest ≡ true → GoesOn name) → (same_word name word || rest) ≡ true → GoesOn name
either name word rest goes later passes = by (same_word name word) refl passes
  where
    by : (b : Bool) → same_word name word ≡ b → (b || rest) ≡ true → GoesOn name
    by true same e = same_in_any_case name word same goes
    by false same e = later e

no_op : GoesOn (codes "NoOp")
unfolding wide_table inner_table standard_table going_names outside_applications
no_op arguments cell = refl

verbose : GoesOn (codes "Verbose")
unfolding wide_table inner_table standard_table going_names outside_applications
verbose arguments cell = refl

log : GoesOn (codes "Log")
unfolding wide_table inner_table standard_table going_names outside_applications
log arguments cell = refl

set_goes_on : GoesOn (codes "Set")
unfolding wide_table inner_table standard_table going_names outside_applications set_row
set_goes_on arguments cell = refl

mset : GoesOn (codes "MSet")
unfolding wide_table inner_table standard_table going_names outside_applications mset_row
mset arguments cell = refl

answer : GoesOn (codes "Answer")
unfolding wide_table inner_table standard_table going_names outside_applications
answer arguments cell = refl

ringing : GoesOn (codes "Ringing")
unfolding wide_table inner_table standard_table going_names outside_applications
ringing arguments cell = refl

progress : GoesOn (codes "Progress")
unfolding wide_table inner_table standard_table going_names outside_applications
progress arguments cell = refl

proceeding : GoesOn (codes "Proceeding")
unfolding wide_table inner_table standard_table going_names outside_applications
proceeding arguments cell = refl

user_event : GoesOn (codes "UserEvent")
unfolding wide_table inner_table standard_table going_names outside_applications
user_event arguments cell = refl

pub each_goes_on : (name : List ℕ) → goes_on_at_once name ≡ true → GoesOn name
each_goes_on name =
    either name (codes "NoOp") _ no_op
    (either name (codes "Verbose") _ verbose
    (either name (codes "Log") _ log
    (either name (codes "Set") _ set_goes_on
    (either name (codes "MSet") _ mset
    (either name (codes "Answer") _ answer
    (either name (codes "Ringing") _ ringing
    (either name (codes "Progress") _ progress
    (either name (codes "Proceeding") _ proceeding
    (λ is. same_in_any_case name (codes "UserEvent") is user_event)))))))))
