-- The row of an application that runs outside keeps the laws of rows, and a table with these applications first keeps those of tables.
use Rattle.std.specs.Prelude.{◌≡◌, ℕ, ◌||◌, Bool, true, false, List, [], Option, map, nat_eq, codes, length, is_some, refl}
use Rattle.std.specs.Char.{to_ascii_lowercase}
use Rattle.std.specs.Cmp.Lexicographic.{pointwise}
use Rattle.std.specs.List.{find}
use Rattle.std.specs.Option.{option_map, unwrap_or}
use Rattle.std.proofs.Common.{ap, sym, ◌∙◌}
use Rattle.dp_conf.specs.Words.{same_word}
use Rattle.dp_app.specs.Cells.{CellOf}
use Rattle.dp_app.specs.Knowledge.{Knowledge, Overlooks}
use Rattle.dp_app.specs.laws.Keeping.{cell_kept, store_kept}
use Rattle.dp_app.specs.laws.StoreKept.{with_store_kept}
use Rattle.dp_app.specs.Lawful.{IsBlind, IsLawful, IsLawfulRow, KeepsUntouched, MayGo, ParksNowhere, waiting_after, waiting_lists}
use Rattle.dp_app.specs.Rows.{Rows}
use Rattle.dp_app.specs.declared.touch.Touch.{Touch}
use Rattle.dp_flow.specs.Touches.{the_variables}
use Rattle.dp_wide.specs.Outside.{after_arguments, is_outside, is_read, outside_applications, outside_outcome, outside_row, outside_statuses, row_outside, without_values, with_outside, with_outside_knowledge, with_outside_touch}
use Rattle.dp_wide.specs.laws.NamesLawful.{lower_case_decides, with_named_blind, with_named_lawful, with_named_overlooks}
use Rattle.dp_wide.specs.laws.UnsetKept.{after_arguments_kept, without_values_kept}

false_is_true : false ≡ true → ⊥
false_is_true e = cc

-- the row, given whether the channel is closing
module _ (statuses : List (List ℕ)) (reads : Bool) (arguments : List ℕ) (cell : CellOf) where
  outside_kept : (closing : Bool) → KeepsUntouched the_variables cell (outside_outcome statuses reads arguments cell closing).cell
  outside_kept true = cell_kept the_variables cell
  outside_kept false =
      with_store_kept the_variables cell (without_values statuses (after_arguments reads arguments cell.store))
      (without_values_kept the_variables cell.store (after_arguments reads arguments cell.store) statuses refl
      (after_arguments_kept the_variables cell.store cell.store reads arguments refl (store_kept the_variables cell.store)))

  outside_parks : (count : ℕ) (closing : Bool) → MayGo count (outside_outcome statuses reads arguments cell closing).next
  outside_parks count true = tt
  outside_parks count false = tt

  outside_waits : (closing : Bool) → waiting_lists (outside_outcome statuses reads arguments cell closing).cell.queues
      ≡ waiting_after (waiting_lists cell.queues) cell.number (outside_outcome statuses reads arguments cell closing).next
  outside_waits true = refl
  outside_waits false = refl

  outside_closes : (closing : Bool) → closing ≡ true → ParksNowhere (outside_outcome statuses reads arguments cell closing).next
  outside_closes true closes = tt
  outside_closes false closes = absurd (false_is_true closes)

-- the row of an application that runs outside
pub outside_lawful : (statuses : List (List ℕ)) (reads : Bool) → IsLawfulRow the_variables (outside_row statuses reads)
unfolding outside_row
outside_lawful statuses reads = record {
  keeps = λ arguments cell. outside_kept statuses reads arguments cell cell.is_closing;
  parks = λ arguments cell. outside_parks statuses reads arguments cell (length cell.queues.queues) cell.is_closing;
  waits = λ arguments cell. outside_waits statuses reads arguments cell cell.is_closing;
  closes = λ arguments cell closing. outside_closes statuses reads arguments cell cell.is_closing closing;
  hangs = λ arguments cell phase closing parks. ap (λ b. outside_outcome statuses reads arguments cell b) closing;
}

-- an application that runs outside is the same in each spelling of its name, and so is the knowledge of it
outside_statuses-spelled : (name spelling : List ℕ) → same_word name spelling ≡ true → outside_statuses spelling ≡ outside_statuses name
outside_statuses-spelled name spelling same =
    lower_case_decides (λ lower. option_map (λ a. a.1) (find (λ a. pointwise nat_eq lower (map to_ascii_lowercase a.0)) outside_applications)) name spelling same

is_outside-spelled : (name spelling : List ℕ) → same_word name spelling ≡ true → is_outside spelling ≡ is_outside name
is_outside-spelled name spelling same = ap (λ (o : Option (List (List ℕ))). is_some o) (outside_statuses-spelled name spelling same)

is_read-spelled : (name spelling : List ℕ) → same_word name spelling ≡ true → is_read spelling ≡ is_read name
is_read-spelled name spelling same =
    lower_case_decides
    (λ lower. pointwise nat_eq lower (map to_ascii_lowercase (codes "Read"))
    || pointwise nat_eq lower (map to_ascii_lowercase (codes "ReadExten")))
    name spelling same

row_outside-spelled : (name spelling : List ℕ) → same_word name spelling ≡ true → row_outside spelling ≡ row_outside name
row_outside-spelled name spelling same =
    ap (λ statuses. outside_row (unwrap_or statuses []) (is_read spelling)) (outside_statuses-spelled name spelling same)
    ∙ ap (λ reads. outside_row (unwrap_or (outside_statuses name) []) reads) (is_read-spelled name spelling same)

-- a lawful table is lawful with the applications that run outside before it
pub with_outside_lawful : (touches : List ℕ → Touch) (rows : Rows) → IsLawful touches rows → IsLawful (with_outside_touch touches) (with_outside rows)
with_outside_lawful touches rows lawful =
    with_named_lawful is_outside the_variables row_outside touches rows
    (λ name. outside_lawful (unwrap_or (outside_statuses name) []) (is_read name)) lawful

-- a blind table is blind with the applications that run outside before it
pub with_outside_blind : (touches : List ℕ → Touch) (rows : Rows) → IsBlind touches rows → IsBlind (with_outside_touch touches) (with_outside rows)
with_outside_blind touches rows blind =
    with_named_blind is_outside the_variables row_outside touches rows is_outside-spelled row_outside-spelled blind

overlooked_outcome : (statuses : List (List ℕ)) (first second : List ℕ) (cell : CellOf) (closing : Bool)
    → outside_outcome statuses false first cell closing ≡ outside_outcome statuses false second cell closing
overlooked_outcome statuses first second cell true = refl
overlooked_outcome statuses first second cell false = refl

overlooked_row : (statuses : List (List ℕ)) (reads : Bool) → reads ≡ false → (first second : List ℕ) (cell : CellOf)
    → outside_row statuses reads first cell ≡ outside_row statuses reads second cell
unfolding outside_row
overlooked_row statuses true looks first second cell = absurd (false_is_true (sym looks))
overlooked_row statuses false looks first second cell = overlooked_outcome statuses first second cell cell.is_closing

-- the applications that run outside, all but `Read`, do the same with any arguments
pub with_outside_overlooks : (knowledge : Knowledge) (rows : Rows) → Overlooks knowledge.looks rows
    → Overlooks (with_outside_knowledge knowledge).looks (with_outside rows)
with_outside_overlooks knowledge rows overlooks =
    with_named_overlooks is_outside is_read row_outside knowledge rows
    (λ name looks. overlooked_row (unwrap_or (outside_statuses name) []) (is_read name) looks) overlooks
