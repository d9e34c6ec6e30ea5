-- Each row keeps the laws of rows with its touch.
use Rattle.std.specs.Prelude.{◌≡◌, ℕ, Bool, true, false, List, [], ◌∷◌, ◌-◌, length, map, take, Option, Some, None, codes, refl, if◌then◌else◌}
use Rattle.std.specs.FinMap.{insert}
use Rattle.std.proofs.Common.{ap}
use Rattle.dp_conf.specs.Blanks.{trim}
use Rattle.dp_conf.specs.Cut.{cut_once}
use Rattle.dp_conf.specs.Levels.{arguments_of}
use Rattle.dp_conf.specs.Words.{same_text}
use Rattle.dp_vars.specs.Stores.{StoreFrame, innermost, popped_setting, set, set_local, with_frame, without_frame}
use Rattle.dp_app.specs.laws.Keeping.{cell_kept, going_lawful, not_parked, store_kept}
use Rattle.dp_app.specs.Lawful.{ParksNowhere, IsLawfulRow, KeepsUntouched, MayGo, MayPark, waiting_after, waiting_lists, waiting_parked}
use Rattle.dp_app.specs.Cells.{CellOf}
use Rattle.dp_app.specs.declared.phase.Phase.{Phase}
use Rattle.dp_app.specs.declared.phase.Phase.TheVariants.{Dialling, Digits, Pause}
use Rattle.dp_app.specs.declared.place.Place.{Place}
use Rattle.dp_app.specs.declared.moves.Move.{Move}
use Rattle.dp_app.specs.declared.moves.Move.TheVariants.{Next, Park, Hang}
use Rattle.dp_flow.specs.Conditions.{chosen_side}
use Rattle.dp_app.specs.Parts.{has_option, is_given, part}
use Rattle.dp_flow.specs.Dialling as dialling
use Rattle.dp_flow.specs.Jumps as jumps
use Rattle.dp_flow.specs.Plain as plain
use Rattle.dp_flow.specs.Jumps.{SubroutineCallOf}
use Rattle.dp_flow.specs.Settings as settings
use Rattle.dp_app.specs.laws.StoreKept.{dropped_kept, pushed_kept, set_kept, set_local_kept, with_caller_kept, with_globals_kept, with_store_kept}
use Rattle.dp_flow.specs.Touches.{nothing, settable, the_frames, the_variables, variables_and_frames}
use Rattle.dp_flow.specs.Waiting as waits

-- a row that does not change the cell and does not park the channel
staying : (move_of : List ℕ → CellOf → Move) → ((arguments : List ℕ) (cell : CellOf) → ParksNowhere (move_of arguments cell))
    → IsLawfulRow nothing (λ arguments cell. jumps.stays cell (move_of arguments cell))
staying move_of goes =
    going_lawful nothing (λ arguments cell. jumps.stays cell (move_of arguments cell)) (λ arguments cell. cell_kept nothing cell) (λ arguments cell. refl) goes

-- the row of `Goto`
pub goto_lawful : IsLawfulRow nothing jumps.goto_row
goto_lawful = staying (λ arguments cell. jumps.jump_to arguments) (λ arguments cell. tt)

going_if : (side : Option (List ℕ)) → ParksNowhere (jumps.jump_if side)
going_if None = tt
going_if (Some side) = tt

-- the row of `GotoIf`
pub goto_if_lawful : IsLawfulRow nothing jumps.goto_if_row
goto_if_lawful = staying (λ arguments cell. jumps.jump_if (chosen_side arguments)) (λ arguments cell. going_if (chosen_side arguments))

-- a row that goes on
pub next_lawful : IsLawfulRow nothing plain.next_row
next_lawful = staying (λ arguments cell. Next) (λ arguments cell. tt)

-- a row that ends the call
pub hangup_lawful : IsLawfulRow nothing plain.hangup_row
hangup_lawful = staying (λ arguments cell. Hang) (λ arguments cell. tt)

-- the parts before the last one
abbrev front_of : List (List ℕ) → List (List ℕ)
front_of parts = take (length parts - 1) parts

-- the entry into a subroutine pushes at most one frame
entered_kept : (cell : CellOf) (parts : List (List ℕ)) (o : Option SubroutineCallOf) → KeepsUntouched the_frames cell (jumps.enter_subroutine cell parts o).cell
entered_kept cell parts None = cell_kept the_frames cell
entered_kept cell parts (Some c) =
    with_store_kept the_frames cell (with_frame cell.store (jumps.place_after cell.place) (jumps.argument_locals 1 c.arguments))
    (pushed_kept the_frames cell.store (jumps.place_after cell.place) (jumps.argument_locals 1 c.arguments) refl)

entered_same : (cell : CellOf) (parts : List (List ℕ)) (o : Option SubroutineCallOf) → (jumps.enter_subroutine cell parts o).cell.queues ≡ cell.queues
entered_same cell parts None = refl
entered_same cell parts (Some c) = refl

entered_going : (cell : CellOf) (parts : List (List ℕ)) (o : Option SubroutineCallOf) → ParksNowhere (jumps.enter_subroutine cell parts o).next
entered_going cell parts None = tt
entered_going cell parts (Some c) = tt

-- the row of `Gosub`
pub gosub_lawful : IsLawfulRow the_frames jumps.gosub_row
unfolding jumps.gosub_row
gosub_lawful = going_lawful the_frames jumps.gosub_row
    (λ arguments cell. entered_kept cell (front_of (arguments_of arguments)) (jumps.subroutine_call (arguments_of arguments)))
    (λ arguments cell. entered_same cell (front_of (arguments_of arguments)) (jumps.subroutine_call (arguments_of arguments)))
    (λ arguments cell. entered_going cell (front_of (arguments_of arguments)) (jumps.subroutine_call (arguments_of arguments)))

gosub_if_kept : (cell : CellOf) (side : Option (List ℕ)) → KeepsUntouched the_frames cell (jumps.gosub_if side cell).cell
gosub_if_kept cell None = cell_kept the_frames cell
gosub_if_kept cell (Some side) = gosub_lawful.keeps side cell

gosub_if_same : (cell : CellOf) (side : Option (List ℕ)) → (jumps.gosub_if side cell).cell.queues ≡ cell.queues
unfolding jumps.gosub_row
gosub_if_same cell None = refl
gosub_if_same cell (Some side) = entered_same cell (front_of (arguments_of side)) (jumps.subroutine_call (arguments_of side))

gosub_if_going : (cell : CellOf) (side : Option (List ℕ)) → ParksNowhere (jumps.gosub_if side cell).next
unfolding jumps.gosub_row
gosub_if_going cell None = tt
gosub_if_going cell (Some side) = entered_going cell (front_of (arguments_of side)) (jumps.subroutine_call (arguments_of side))

-- the row of `GosubIf`
pub gosub_if_lawful : IsLawfulRow the_frames jumps.gosub_if_row
unfolding jumps.gosub_if_row
gosub_if_lawful = going_lawful the_frames jumps.gosub_if_row
    (λ arguments cell. gosub_if_kept cell (chosen_side arguments))
    (λ arguments cell. gosub_if_same cell (chosen_side arguments))
    (λ arguments cell. gosub_if_going cell (chosen_side arguments))

-- the end of a subroutine, given the frame that is removed
module _ (cell : CellOf) (value : List ℕ) where
  return_kept : (o : Option (StoreFrame Place))
      → KeepsUntouched variables_and_frames cell (jumps.return_outcome cell (popped_setting cell.store (codes "GOSUB_RETVAL") value o)).cell
  return_kept None = with_store_kept variables_and_frames cell cell.store (store_kept variables_and_frames cell.store)
  return_kept (Some frame) =
      with_store_kept variables_and_frames cell (set (without_frame cell.store) (codes "GOSUB_RETVAL") value)
      (set_kept variables_and_frames cell.store (without_frame cell.store) (codes "GOSUB_RETVAL") value refl
      (dropped_kept variables_and_frames cell.store refl))

  return_same : (o : Option (StoreFrame Place)) → (jumps.return_outcome cell (popped_setting cell.store (codes "GOSUB_RETVAL") value o)).cell.queues ≡ cell.queues
  return_same None = refl
  return_same (Some frame) = refl

  return_going : (o : Option (StoreFrame Place)) → ParksNowhere (jumps.return_outcome cell (popped_setting cell.store (codes "GOSUB_RETVAL") value o)).next
  return_going None = tt
  return_going (Some frame) = tt

-- the row of `Return`
pub return_lawful : IsLawfulRow variables_and_frames jumps.return_row
unfolding jumps.return_row
return_lawful = going_lawful variables_and_frames jumps.return_row
    (λ arguments cell. return_kept cell arguments (innermost cell.store.frames))
    (λ arguments cell. return_same cell arguments (innermost cell.store.frames))
    (λ arguments cell. return_going cell arguments (innermost cell.store.frames))

-- the row of `StackPop`
pub stack_pop_lawful : IsLawfulRow the_frames jumps.stack_pop_row
stack_pop_lawful = going_lawful the_frames jumps.stack_pop_row
    (λ arguments cell. with_store_kept the_frames cell (without_frame cell.store) (dropped_kept the_frames cell.store refl))
    (λ arguments cell. refl) (λ arguments cell. tt)

-- the parts of a cell that setting a name does not change
record SetsOnly (before after : CellOf) : Type 0 where
  keeps : KeepsUntouched settable before after
  same : after.queues ≡ before.queues

module _ (cell : CellOf) (argument value : List ℕ) where
  caller_only : (b : Bool) → SetsOnly cell (if b then record cell { caller = value } else cell)
  caller_only true = record { keeps = with_caller_kept settable cell value refl; same = refl }
  caller_only false = record { keeps = cell_kept settable cell; same = refl }

  function_only : (g l c n : Bool) → SetsOnly cell
      (if g then record cell { globals = insert cell.globals argument value }
      else if l then record cell { store = set_local cell.store argument value }
      else if c then (if n then record cell { caller = value } else cell)
      else cell)
  function_only true l c n = record { keeps = with_globals_kept settable cell (insert cell.globals argument value) refl; same = refl }
  function_only false true c n =
      record { keeps = with_store_kept settable cell (set_local cell.store argument value) (set_local_kept settable cell.store argument value refl); same = refl }
  function_only false false true n = caller_only n
  function_only false false false n = record { keeps = cell_kept settable cell; same = refl }

  variable_only : (name : List ℕ) → SetsOnly cell (settings.with_variable cell name value)
  variable_only [] = record { keeps = cell_kept settable cell; same = refl }
  variable_only (b ∷ bs) = record {
    keeps = with_store_kept settable cell (set cell.store (b ∷ bs) value)
        (set_kept settable cell.store cell.store (b ∷ bs) value refl (store_kept settable cell.store));
    same = refl;
  }

called_only : (cell : CellOf) (function value : List ℕ) (o : Option (List ℕ)) → SetsOnly cell (settings.with_called cell function o value)
called_only cell function value None = record { keeps = cell_kept settable cell; same = refl }
called_only cell function value (Some argument) =
    function_only cell argument value (same_text function (codes "GLOBAL")) (same_text function (codes "LOCAL"))
    (same_text function (codes "CALLERID")) (same_text argument (codes "num"))

name_only : (cell : CellOf) (name value : List ℕ) (o : Option (List ℕ × List ℕ)) → SetsOnly cell (settings.with_name cell name o value)
name_only cell name value None = variable_only cell [] value name
name_only cell name value (Some cut) = called_only cell cut.0 value (settings.argument_of cut.1)

pair_only : (cell : CellOf) (o : Option (List ℕ × List ℕ)) → SetsOnly cell (settings.with_pair cell o)
pair_only cell None = record { keeps = cell_kept settable cell; same = refl }
pair_only cell (Some cut) = name_only cell (trim cut.0) cut.1 (cut_once 40 (trim cut.0))

-- the row of `Set`
pub set_lawful : IsLawfulRow settable settings.set_row
unfolding settings.set_row
set_lawful = going_lawful settable settings.set_row
    (λ arguments cell. (pair_only cell (cut_once 61 arguments)).keeps)
    (λ arguments cell. (pair_only cell (cut_once 61 arguments)).same)
    (λ arguments cell. tt)

false_is_true : false ≡ true → ⊥
false_is_true e = cc

-- a wait in a phase in which a channel may be parked, and which does not change the waiting lists
module _ (phase : Phase) (may : (count : ℕ) → MayPark count phase)
    (leaves : (lists : List (List ℕ)) (number : ℕ) → lists ≡ waiting_parked lists number phase) where
  parked_parks : (count : ℕ) (b : Bool) → MayGo count (waits.park_move phase b)
  parked_parks count true = tt
  parked_parks count false = may count

  parked_waits : (lists : List (List ℕ)) (number : ℕ) (b : Bool) → lists ≡ waiting_after lists number (waits.park_move phase b)
  parked_waits lists number true = refl
  parked_waits lists number false = leaves lists number

  parked_closes : (b : Bool) → b ≡ true → ParksNowhere (waits.park_move phase b)
  parked_closes true closing = tt
  parked_closes false closing = absurd (false_is_true closing)

  parked_lawful : IsLawfulRow nothing (λ arguments cell. jumps.stays cell (waits.park_move phase cell.is_closing))
  parked_lawful = record {
    keeps = λ arguments cell. cell_kept nothing cell;
    parks = λ arguments cell. parked_parks (length cell.queues.queues) cell.is_closing;
    waits = λ arguments cell. parked_waits (map (λ queue. queue.waiting) cell.queues.queues) cell.number cell.is_closing;
    closes = λ arguments cell closing. parked_closes cell.is_closing closing;
    hangs = λ arguments cell asked closing parks. ap (λ b. jumps.stays cell (waits.park_move phase b)) closing;
  }

-- the row of `Wait`
pub wait_lawful : IsLawfulRow nothing waits.wait_row
wait_lawful = parked_lawful Pause (λ count. tt) (λ lists number. refl)

-- the row of `WaitExten`
pub wait_exten_lawful : IsLawfulRow nothing waits.wait_exten_row
wait_exten_lawful = parked_lawful (Digits [] false) (λ count. refl) (λ lists number. refl)

-- the row of `Background`
pub background_lawful : IsLawfulRow nothing waits.background_row
background_lawful = parked_lawful (Digits [] true) (λ count. refl) (λ lists number. refl)

-- a call to devices, if there are any
module _ (cell : CellOf) (goes_on has_timer : Bool) where
  dialled_kept : (given : Bool) → KeepsUntouched the_variables cell (dialling.dial_outcome given cell goes_on has_timer).cell
  dialled_kept false =
      with_store_kept the_variables cell (set cell.store (codes "DIALSTATUS") (codes "CHANUNAVAIL"))
      (set_kept the_variables cell.store cell.store (codes "DIALSTATUS") (codes "CHANUNAVAIL") refl (store_kept the_variables cell.store))
  dialled_kept true = cell_kept the_variables cell

  dialled_parks : (count : ℕ) (given : Bool) → MayGo count (dialling.dial_outcome given cell goes_on has_timer).next
  dialled_parks count false = tt
  dialled_parks count true = parked_parks (Dialling goes_on has_timer) (λ count. tt) (λ lists number. refl) count cell.is_closing

  dialled_waits : (given : Bool) → waiting_lists (dialling.dial_outcome given cell goes_on has_timer).cell.queues
      ≡ waiting_after (waiting_lists cell.queues) cell.number (dialling.dial_outcome given cell goes_on has_timer).next
  dialled_waits false = refl
  dialled_waits true =
      parked_waits (Dialling goes_on has_timer) (λ count. tt) (λ lists number. refl) (waiting_lists cell.queues) cell.number cell.is_closing

  dialled_closes : (given : Bool) → cell.is_closing ≡ true → ParksNowhere (dialling.dial_outcome given cell goes_on has_timer).next
  dialled_closes false closing = tt
  dialled_closes true closing = parked_closes (Dialling goes_on has_timer) (λ count. tt) (λ lists number. refl) cell.is_closing closing

  -- if it would wait without the mark, the call ends and nothing changes
  dialled_hangs : (given : Bool) (phase : Phase) → cell.is_closing ≡ true
      → (dialling.dial_outcome given (record cell { is_closing = false }) goes_on has_timer).next ≡ Park phase
      → dialling.dial_outcome given cell goes_on has_timer ≡ record { cell = cell; next = Hang }
  dialled_hangs false phase closing parks = not_parked Next phase tt parks
  dialled_hangs true phase closing parks = ap (λ b. jumps.stays cell (waits.park_move (Dialling goes_on has_timer) b)) closing

-- the parts of its arguments that `Dial` reads
abbrev has_devices : List ℕ → Bool
has_devices arguments = is_given (part 0 (arguments_of arguments))

abbrev goes_on_of : List ℕ → Bool
goes_on_of arguments = has_option 103 (part 2 (arguments_of arguments))

abbrev has_timer_of : List ℕ → Bool
has_timer_of arguments = is_given (part 1 (arguments_of arguments))

-- the row of `Dial`
pub dial_lawful : IsLawfulRow the_variables dialling.dial_row
unfolding dialling.dial_row
dial_lawful = record {
  keeps = λ arguments cell. dialled_kept cell (goes_on_of arguments) (has_timer_of arguments) (has_devices arguments);
  parks = λ arguments cell.
      dialled_parks cell (goes_on_of arguments) (has_timer_of arguments) (length cell.queues.queues) (has_devices arguments);
  waits = λ arguments cell. dialled_waits cell (goes_on_of arguments) (has_timer_of arguments) (has_devices arguments);
  closes = λ arguments cell closing. dialled_closes cell (goes_on_of arguments) (has_timer_of arguments) (has_devices arguments) closing;
  hangs = λ arguments cell phase closing parks.
      dialled_hangs cell (goes_on_of arguments) (has_timer_of arguments) (has_devices arguments) phase closing parks;
}
