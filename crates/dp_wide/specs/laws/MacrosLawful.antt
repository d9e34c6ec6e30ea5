-- The rows of `Macro` and `MacroExit` keep the laws of rows with their touch.
use Rattle.std.specs.Prelude.{◌≡◌, ℕ, List, [], Option, Some, None, refl}
use Rattle.dp_conf.specs.Blanks.{trim}
use Rattle.dp_conf.specs.Levels.{cut_outside}
use Rattle.dp_vars.specs.Stores.{StoreFrame, innermost, without_frame}
use Rattle.dp_app.specs.Cells.{CellOf}
use Rattle.dp_app.specs.Lawful.{IsLawfulRow, KeepsUntouched, ParksNowhere}
use Rattle.dp_app.specs.declared.place.Place.{Place}
use Rattle.dp_app.specs.laws.Keeping.{cell_kept, going_lawful}
use Rattle.dp_app.specs.laws.StoreKept.{dropped_kept, with_store_kept}
use Rattle.dp_flow.specs.Jumps.{inner_arguments}
use Rattle.dp_flow.specs.Touches.{the_frames}
use Rattle.dp_wide.specs.Macros as spec
use Rattle.dp_wide.specs.laws.SubroutinesLawful.{called_kept}

macro_kept : (cell : CellOf) (text : List ℕ) (o : Option (List ℕ × List ℕ)) → KeepsUntouched the_frames cell (spec.macro_by cell text o).cell
macro_kept cell text None = called_kept cell (spec.macro_locals cell.place [])
macro_kept cell text (Some cut) = called_kept cell (spec.macro_locals cell.place (inner_arguments cut.1))

macro_same : (cell : CellOf) (text : List ℕ) (o : Option (List ℕ × List ℕ)) → (spec.macro_by cell text o).cell.queues ≡ cell.queues
macro_same cell text None = refl
macro_same cell text (Some cut) = refl

macro_going : (cell : CellOf) (text : List ℕ) (o : Option (List ℕ × List ℕ)) → ParksNowhere (spec.macro_by cell text o).next
macro_going cell text None = tt
macro_going cell text (Some cut) = tt

-- the row of `Macro`
pub macro_lawful : IsLawfulRow the_frames spec.macro_row
unfolding spec.macro_row
macro_lawful = going_lawful the_frames spec.macro_row
    (λ arguments cell. macro_kept cell arguments (cut_outside 44 arguments))
    (λ arguments cell. macro_same cell arguments (cut_outside 44 arguments))
    (λ arguments cell. macro_going cell arguments (cut_outside 44 arguments))

exit_kept : (cell : CellOf) (o : Option (StoreFrame Place)) → KeepsUntouched the_frames cell (spec.exit_by cell o).cell
exit_kept cell None = cell_kept the_frames cell
exit_kept cell (Some frame) = with_store_kept the_frames cell (without_frame cell.store) (dropped_kept the_frames cell.store refl)

exit_same : (cell : CellOf) (o : Option (StoreFrame Place)) → (spec.exit_by cell o).cell.queues ≡ cell.queues
exit_same cell None = refl
exit_same cell (Some frame) = refl

exit_going : (cell : CellOf) (o : Option (StoreFrame Place)) → ParksNowhere (spec.exit_by cell o).next
exit_going cell None = tt
exit_going cell (Some frame) = tt

-- the row of `MacroExit`
pub macro_exit_lawful : IsLawfulRow the_frames spec.macro_exit_row
macro_exit_lawful = going_lawful the_frames spec.macro_exit_row
    (λ arguments cell. exit_kept cell (innermost cell.store.frames))
    (λ arguments cell. exit_same cell (innermost cell.store.frames))
    (λ arguments cell. exit_going cell (innermost cell.store.frames))
