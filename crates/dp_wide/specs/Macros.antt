-- The rows of `Macro` and `MacroExit`.
use Rattle.std.specs.Prelude.{ℕ, List, [], ◌∷◌, ◌++◌, Option, Some, None, codes}
use Rattle.std.specs.Fmt.{decimal}
use Rattle.dp_conf.specs.Blanks.{trim}
use Rattle.dp_conf.specs.Levels.{cut_outside}
use Rattle.dp_vars.specs.Stores.{StoreFrame, innermost, without_frame}
use Rattle.dp_vars.specs.declared.local.Local.{Local}
use Rattle.dp_app.specs.Cells.{CellOf}
use Rattle.dp_app.specs.Rows.{Outcome, Row}
use Rattle.dp_app.specs.declared.moves.Move.TheVariants.{Next, Jump, Enter}
use Rattle.dp_app.specs.declared.place.Place.{Place}
use Rattle.dp_app.specs.declared.target.Target.TheVariants.{To}
use Rattle.dp_flow.specs.Jumps.{inner_arguments, stays}
use Rattle.dp_wide.specs.Subroutines.{counted_locals, local, with_call}

-- the locals of a macro: those of a subroutine, and the place of the caller
abbrev pub macro_locals : Place → List (List ℕ) → List Local
macro_locals place arguments =
    counted_locals arguments
    ++ local (codes "MACRO_EXTEN") place.exten
    ∷ local (codes "MACRO_CONTEXT") place.context
    ∷ local (codes "MACRO_PRIORITY") (decimal place.priority)
    ∷ []

-- the start of a macro: the extension `s` of its own context
abbrev pub macro_target : List ℕ → List (List ℕ)
macro_target name = (codes "macro-" ++ name) ∷ codes "s" ∷ codes "1" ∷ []

-- the entry into a macro, given its name and its arguments: it pushes a frame, which is removed again if no entry is found there, so that the
-- channel goes on
abbrev pub enter_macro : CellOf → List ℕ → List (List ℕ) → Outcome
enter_macro cell name arguments =
    record { cell = with_call cell (macro_locals cell.place arguments); next = Enter (macro_target (trim name)) }

-- the entry into a macro, given the first comma outside parentheses, where its name ends
abbrev pub macro_by : CellOf → List ℕ → Option (List ℕ × List ℕ) → Outcome
macro_by cell text None = enter_macro cell text []
macro_by cell text (Some cut) = enter_macro cell cut.0 (inner_arguments cut.1)

-- the row of `Macro`
unfoldable pub macro_row : Row
macro_row arguments cell = macro_by cell arguments (cut_outside 44 arguments)

-- the end of a macro: the innermost frame is removed, and the channel goes back to its place; without a frame the channel goes on
abbrev pub exit_by : CellOf → Option (StoreFrame Place) → Outcome
exit_by cell None = stays cell Next
exit_by cell (Some frame) = record { cell = record cell { store = without_frame cell.store }; next = Jump (To frame.back) }

-- the row of `MacroExit`
abbrev pub macro_exit_row : Row
macro_exit_row arguments cell = exit_by cell (innermost cell.store.frames)
