-- Facts about rows that do not change parts of a cell, for the laws of applications.
use Rattle.std.specs.Prelude.{◌≡◌, ℕ, false, List, length, refl}
use Rattle.std.proofs.Common.{ap, subst, ◌∙◌, rules}
use Rattle.std.proofs.Math.Seq.{take-length}
use Rattle.dp_queue.specs.Queues.{QueuesOf}
use Rattle.dp_vars.specs.Stores.{StoreOf}
use Rattle.dp_app.specs.Lawful.{ParksNowhere, IsLawfulRow, KeepsQueues, KeepsStore, KeepsUntouched, MayGo, waiting_after, waiting_lists}
use Rattle.dp_app.specs.Rows.{Row}
use Rattle.dp_app.specs.Cells.{CellOf}
use Rattle.dp_app.specs.declared.moves.Move.{Move}
use Rattle.dp_app.specs.declared.moves.Move.TheVariants.{Next, Jump, Enter, Park, Hang}
use Rattle.dp_app.specs.declared.phase.Phase.{Phase}
use Rattle.dp_app.specs.declared.place.Place.{Place}
use Rattle.dp_app.specs.declared.touch.Touch.{Touch}

-- an unchanged store
pub store_kept : (touch : Touch) (store : StoreOf Place) → KeepsStore touch store store
store_kept touch store = search rules

-- unchanged queues
pub queues_kept : (touch : Touch) (queues : QueuesOf) → KeepsQueues touch queues queues
queues_kept touch queues = search (rules, take-length)

-- an unchanged cell
pub cell_kept : (touch : Touch) (cell : CellOf) → KeepsUntouched touch cell cell
cell_kept touch cell = search (store_kept, queues_kept)

-- a move that does not park the channel keeps the park law
pub going_parks : (count : ℕ) (going : Move) → ParksNowhere going → MayGo count going
going_parks count Next g = tt
going_parks count (Jump target) g = tt
going_parks count (Enter parts) g = tt
going_parks count (Park phase) g = absurd g
going_parks count Hang g = tt

-- and does not change the waiting lists
pub going_waits : (lists : List (List ℕ)) (number : ℕ) (going : Move) → ParksNowhere going → lists ≡ waiting_after lists number going
going_waits lists number Next g = refl
going_waits lists number (Jump target) g = refl
going_waits lists number (Enter parts) g = refl
going_waits lists number (Park phase) g = absurd g
going_waits lists number Hang g = refl

-- such a move does not park
pub not_parked : {X : Type 0} (going : Move) (phase : Phase) → ParksNowhere going → going ≡ Park phase → X
not_parked going phase g parks = absurd (subst (λ move. ParksNowhere move) parks g)

-- a row that does not park the channel and does not change the queues keeps the laws, if it keeps the touch law
pub going_lawful : (touch : Touch) (row : Row)
    → ((arguments : List ℕ) (cell : CellOf) → KeepsUntouched touch cell (row arguments cell).cell)
    → ((arguments : List ℕ) (cell : CellOf) → (row arguments cell).cell.queues ≡ cell.queues)
    → ((arguments : List ℕ) (cell : CellOf) → ParksNowhere (row arguments cell).next)
    → IsLawfulRow touch row
going_lawful touch row keeps same goes = record {
  keeps = keeps;
  parks = λ arguments cell. going_parks (length cell.queues.queues) (row arguments cell).next (goes arguments cell);
  waits = λ arguments cell. ap waiting_lists (same arguments cell)
      ∙ going_waits (waiting_lists cell.queues) cell.number (row arguments cell).next (goes arguments cell);
  closes = λ arguments cell closing. goes arguments cell;
  hangs = λ arguments cell phase closing parks.
      not_parked (row arguments (record cell { is_closing = false })).next phase (goes arguments (record cell { is_closing = false })) parks;
}
