-- The rows of `Gosub` and `GosubIf` keep the laws of rows with their touch.
use Rattle.std.specs.Prelude.{◌≡◌, ℕ, ◌-◌, List, [], ◌∷◌, ◌++◌, length, take, Option, Some, None, refl}
use Rattle.dp_conf.specs.Levels.{arguments_of}
use Rattle.dp_vars.specs.Stores.{with_frame}
use Rattle.dp_vars.specs.declared.local.Local.{Local}
use Rattle.dp_app.specs.Cells.{CellOf}
use Rattle.dp_app.specs.Lawful.{IsLawfulRow, KeepsUntouched, ParksNowhere}
use Rattle.dp_app.specs.laws.Keeping.{cell_kept, going_lawful}
use Rattle.dp_app.specs.laws.StoreKept.{pushed_kept, with_store_kept}
use Rattle.dp_flow.specs.Conditions.{chosen_side}
use Rattle.dp_flow.specs.Jumps.{SubroutineCallOf, place_after, subroutine_call}
use Rattle.dp_flow.specs.Touches.{the_frames}
use Rattle.dp_wide.specs.Subroutines as spec

-- the parts before the last one
abbrev front_of : List (List ℕ) → List (List ℕ)
front_of parts = take (length parts - 1) parts

-- the entry into a subroutine or a macro pushes a frame
pub called_kept : (cell : CellOf) (locals : List Local) → KeepsUntouched the_frames cell (spec.with_call cell locals)
called_kept cell locals =
    with_store_kept the_frames cell (with_frame cell.store (place_after cell.place) locals)
    (pushed_kept the_frames cell.store (place_after cell.place) locals refl)

counted_kept : (cell : CellOf) (front : List (List ℕ)) (o : Option SubroutineCallOf) → KeepsUntouched the_frames cell (spec.enter_counted cell front o).cell
counted_kept cell front None = cell_kept the_frames cell
counted_kept cell front (Some c) = called_kept cell (spec.counted_locals c.arguments)

counted_same : (cell : CellOf) (front : List (List ℕ)) (o : Option SubroutineCallOf) → (spec.enter_counted cell front o).cell.queues ≡ cell.queues
counted_same cell front None = refl
counted_same cell front (Some c) = refl

counted_going : (cell : CellOf) (front : List (List ℕ)) (o : Option SubroutineCallOf) → ParksNowhere (spec.enter_counted cell front o).next
counted_going cell front None = tt
counted_going cell front (Some c) = tt

-- the row of `Gosub`
pub gosub_lawful : IsLawfulRow the_frames spec.gosub_row
unfolding spec.gosub_row
gosub_lawful = going_lawful the_frames spec.gosub_row
    (λ arguments cell. counted_kept cell (front_of (arguments_of arguments)) (subroutine_call (arguments_of arguments)))
    (λ arguments cell. counted_same cell (front_of (arguments_of arguments)) (subroutine_call (arguments_of arguments)))
    (λ arguments cell. counted_going cell (front_of (arguments_of arguments)) (subroutine_call (arguments_of arguments)))

if_kept : (cell : CellOf) (side : Option (List ℕ)) → KeepsUntouched the_frames cell (spec.gosub_if side cell).cell
if_kept cell None = cell_kept the_frames cell
if_kept cell (Some side) = gosub_lawful.keeps side cell

if_same : (cell : CellOf) (side : Option (List ℕ)) → (spec.gosub_if side cell).cell.queues ≡ cell.queues
unfolding spec.gosub_row
if_same cell None = refl
if_same cell (Some side) = counted_same cell (front_of (arguments_of side)) (subroutine_call (arguments_of side))

if_going : (cell : CellOf) (side : Option (List ℕ)) → ParksNowhere (spec.gosub_if side cell).next
unfolding spec.gosub_row
if_going cell None = tt
if_going cell (Some side) = counted_going cell (front_of (arguments_of side)) (subroutine_call (arguments_of side))

-- the row of `GosubIf`
pub gosub_if_lawful : IsLawfulRow the_frames spec.gosub_if_row
unfolding spec.gosub_if_row
gosub_if_lawful = going_lawful the_frames spec.gosub_if_row
    (λ arguments cell. if_kept cell (chosen_side arguments))
    (λ arguments cell. if_same cell (chosen_side arguments))
    (λ arguments cell. if_going cell (chosen_side arguments))
