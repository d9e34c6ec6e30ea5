-- The rows of `ExecIf` and of `GotoIfTime` keep the laws of rows.
use Rattle.std.specs.Prelude.{◌≡◌, ℕ, zero, suc, true, false, List, [], Option, Some, None, length, refl}
use Rattle.dp_app.specs.Cells.{CellOf}
use Rattle.dp_app.specs.Lawful.{IsLawful, IsLawfulRow, KeepsUntouched, MayGo, ParksNowhere, waiting_after, waiting_lists}
use Rattle.dp_app.specs.Rows.{Outcome, Row, Rows}
use Rattle.dp_app.specs.Tables.{with_row, with_row_lawful, with_touch}
use Rattle.dp_app.specs.laws.Keeping.{cell_kept, going_lawful}
use Rattle.dp_app.specs.declared.moves.Move.TheVariants.{Hang, Park}
use Rattle.dp_app.specs.declared.phase.Phase.{Phase}
use Rattle.dp_app.specs.declared.touch.Touch.{Touch}
use Rattle.dp_flow.specs.Jumps.{jump_if}
use Rattle.dp_flow.specs.Plain.{hangup_row, next_row}
use Rattle.dp_flow.specs.Touches.{nothing}
use Rattle.dp_flow.specs.laws.Lawful.{hangup_lawful, next_lawful}
use Rattle.dp_wide.specs.Choices.{everything, exec_if_application, exec_if_row, exec_if_title, exec_if_within, row_or_end, run_in}
use Rattle.dp_wide.specs.TimeChoice.{clock_in, goto_if_time_row, timed_side}

true_is_false : true ≡ false → ⊥
true_is_false e = cc

touches_nothing : {X : Type 0} → true ≡ false → X
touches_nothing e = absurd (true_is_false e)

-- what keeps to some touch keeps to the touch of everything
all_kept : (touch : Touch) (before after : CellOf) → KeepsUntouched touch before after → KeepsUntouched everything before after
all_kept touch before after kept = record {
  number = kept.number;
  place = kept.place;
  closing = kept.closing;
  caller = touches_nothing;
  globals = touches_nothing;
  store = record { places = touches_nothing; variables = touches_nothing; locals = touches_nothing; names = touches_nothing };
  queues = record {
    names = kept.queues.names;
    settings = kept.queues.settings;
    finished = kept.queues.finished;
    known = kept.queues.known;
    states = kept.queues.states;
    members = touches_nothing;
    lasts = touches_nothing;
    agents = touches_nothing;
    waiting = touches_nothing;
  };
}

-- a row that is lawful with some touch is lawful with the touch of everything
pub all_lawful : (touch : Touch) (row : Row) → IsLawfulRow touch row → IsLawfulRow everything row
all_lawful touch row lawful = record {
  keeps = λ arguments cell. all_kept touch cell (row arguments cell).cell (lawful.keeps arguments cell);
  parks = lawful.parks;
  waits = lawful.waits;
  closes = lawful.closes;
  hangs = lawful.hangs;
}

-- the laws of a row with given arguments: they are only about its outcome on each cell
record IsLawfulOn (of_cell : CellOf → Outcome) : Type 0 where
  keeps : (cell : CellOf) → KeepsUntouched everything cell (of_cell cell).cell
  parks : (cell : CellOf) → MayGo (length cell.queues.queues) (of_cell cell).next
  waits : (cell : CellOf) →
      waiting_lists (of_cell cell).cell.queues ≡ waiting_after (waiting_lists cell.queues) cell.number (of_cell cell).next
  closes : (cell : CellOf) → cell.is_closing ≡ true → ParksNowhere (of_cell cell).next
  hangs : (cell : CellOf) (phase : Phase) → cell.is_closing ≡ true
      → (of_cell (record cell { is_closing = false })).next ≡ Park phase → of_cell cell ≡ record { cell = cell; next = Hang }

-- a lawful row is lawful with each of its arguments
lawful_on : (touch : Touch) (row : Row) → IsLawfulRow touch row → (arguments : List ℕ) → IsLawfulOn (row arguments)
lawful_on touch row lawful arguments = record {
  keeps = (all_lawful touch row lawful).keeps arguments;
  parks = lawful.parks arguments;
  waits = lawful.waits arguments;
  closes = lawful.closes arguments;
  hangs = lawful.hangs arguments;
}

-- what a lawful table makes of an application is lawful
run_lawful : (touches : List ℕ → Touch) (rows : Rows) → IsLawful touches rows → (call : Option (List ℕ × List ℕ))
    → IsLawfulOn (run_in rows call)
run_lawful touches rows lawful None = lawful_on nothing next_row next_lawful []
run_lawful touches rows lawful (Some call) = by (rows call.0) (lawful call.0)
  where
    by : (o : Option Row) → ((row : Row) → o ≡ Some row → IsLawfulRow (touches call.0) row) → IsLawfulOn (row_or_end o call.1)
    by None lawful_row = lawful_on nothing hangup_row hangup_lawful call.1
    by (Some row) lawful_row = lawful_on (touches call.0) row (lawful_row row refl) call.1

-- the row of an `ExecIf` over a lawful table
pub exec_if_lawful : (touches : List ℕ → Touch) (rows : Rows) → IsLawful touches rows → IsLawfulRow everything (exec_if_row rows)
exec_if_lawful touches rows lawful = record {
  keeps = λ arguments. (on arguments).keeps;
  parks = λ arguments. (on arguments).parks;
  waits = λ arguments. (on arguments).waits;
  closes = λ arguments. (on arguments).closes;
  hangs = λ arguments. (on arguments).hangs;
}
  where
    on : (arguments : List ℕ) → IsLawfulOn (run_in rows (exec_if_application arguments))
    on arguments = run_lawful touches rows lawful (exec_if_application arguments)

-- the row of an `ExecIf` over a lawful table, when so many may run inside each other
pub exec_if_within_lawful : (more : ℕ) (touches : List ℕ → Touch) (rows : Rows) → IsLawful touches rows
    → IsLawfulRow everything (exec_if_within more rows)
exec_if_within_lawful zero touches rows lawful = all_lawful nothing hangup_row hangup_lawful
exec_if_within_lawful (suc more) touches rows lawful =
    exec_if_lawful (with_touch exec_if_title everything touches) (with_row exec_if_title (exec_if_within more rows) rows)
    (with_row_lawful exec_if_title everything (exec_if_within more rows) touches rows (exec_if_within_lawful more touches rows lawful) lawful)

timed_going : (side : Option (List ℕ)) → ParksNowhere (jump_if side)
timed_going None = tt
timed_going (Some side) = tt

-- the row of `GotoIfTime`
pub goto_if_time_lawful : IsLawfulRow nothing goto_if_time_row
goto_if_time_lawful = going_lawful nothing goto_if_time_row
    (λ arguments cell. cell_kept nothing cell)
    (λ arguments cell. refl)
    (λ arguments cell. timed_going (timed_side (clock_in cell.globals) arguments))
