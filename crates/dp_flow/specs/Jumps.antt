-- Jumps to targets, and the entry into subroutines and their end.
use Rattle.std.specs.Prelude.{ℕ, ◌+◌, ◌-◌, List, [], ◌∷◌, ◌++◌, Option, Some, None, length, slice_get, take, codes}
use Rattle.std.specs.Fmt.{decimal}
use Rattle.std.specs.Option.{option_map, option_and_then}
use Rattle.dp_conf.specs.Blanks.{trim}
use Rattle.dp_conf.specs.Cut.{cut_once, before_last}
use Rattle.dp_conf.specs.Levels.{arguments_of}
use Rattle.dp_vars.specs.Stores.{StoreOf, innermost, popped_setting, with_frame, without_frame}
use Rattle.dp_vars.specs.declared.local.Local.{Local}
use Rattle.dp_app.specs.Rows.{Outcome, Row}
use Rattle.dp_app.specs.Cells.{CellOf}
use Rattle.dp_app.specs.declared.moves.Move.{Move}
use Rattle.dp_app.specs.declared.moves.Move.TheVariants.{Next, Jump, Hang}
use Rattle.dp_app.specs.declared.target.Target.TheVariants.{To, Existing, Parts}
use Rattle.dp_app.specs.declared.place.Place.{Place}
use Rattle.dp_flow.specs.Conditions.{chosen_side}

-- the outcome of a move with the cell unchanged
abbrev pub stays : CellOf → Move → Outcome
stays cell going = record { cell = cell; next = going }

-- a jump to a target, given its text
abbrev pub jump_to : List ℕ → Move
jump_to target = Jump (Parts (arguments_of target))

-- the row of `Goto`
abbrev pub goto_row : Row
goto_row arguments cell = stays cell (jump_to arguments)

-- a jump to the side that is taken, or the next priority if there is none
abbrev pub jump_if : Option (List ℕ) → Move
jump_if None = Next
jump_if (Some side) = jump_to side

-- the row of `GotoIf`
abbrev pub goto_if_row : Row
goto_if_row arguments cell = stays cell (jump_if (chosen_side arguments))

-- the priority of a subroutine, and its arguments
pub record SubroutineCallOf : Type 0 where
  pub priority : List ℕ
  pub arguments : List (List ℕ)

-- the arguments between a target's parentheses; `()` has none
abbrev pub inner_arguments : List ℕ → List (List ℕ)
inner_arguments [] = []
inner_arguments (b ∷ bs) = arguments_of (b ∷ bs)

-- the last part of a subroutine's target, given its first `(`: the arguments end at the last `)` after it, and without a `)` there is no
-- target
abbrev pub called_by : List ℕ → Option (List ℕ × List ℕ) → Option SubroutineCallOf
called_by part None = Some (record { priority = part; arguments = [] })
called_by part (Some cut) =
    option_map (λ inside. record { priority = trim cut.0; arguments = inner_arguments inside }) (before_last 41 cut.1)

-- the last part of a subroutine's target
abbrev pub subroutine_call : List (List ℕ) → Option SubroutineCallOf
subroutine_call parts = option_and_then (λ part. called_by part (cut_once 40 part)) (slice_get parts (length parts - 1))

-- the locals of a subroutine: `ARG1`, `ARG2` and so on, from a number on
abbrev pub argument_locals : ℕ → List (List ℕ) → List Local
argument_locals number [] = []
argument_locals number (value ∷ values) = record { name = codes "ARG" ++ decimal number; value = value } ∷ argument_locals (number + 1) values

-- the place after a place
abbrev pub place_after : Place → Place
place_after place = record { context = place.context; exten = place.exten; priority = place.priority + 1 }

-- the entry into a subroutine, given the parts before the last one: it pushes a frame that returns to the place after this one
abbrev pub enter_subroutine : CellOf → List (List ℕ) → Option SubroutineCallOf → Outcome
enter_subroutine cell front None = stays cell Hang
enter_subroutine cell front (Some c) = record {
  cell = record cell { store = with_frame cell.store (place_after cell.place) (argument_locals 1 c.arguments) };
  next = Jump (Existing (front ++ c.priority ∷ []));
}

-- the entry into a subroutine, given the parts of its target
abbrev pub gosub_parts : List (List ℕ) → CellOf → Outcome
gosub_parts parts cell = enter_subroutine cell (take (length parts - 1) parts) (subroutine_call parts)

-- the row of `Gosub`
unfoldable pub gosub_row : Row
gosub_row arguments cell = gosub_parts (arguments_of arguments) cell

-- the entry into the subroutine of the side that is taken, if there is one
abbrev pub gosub_if : Option (List ℕ) → CellOf → Outcome
gosub_if None cell = stays cell Next
gosub_if (Some side) cell = gosub_row side cell

-- the row of `GosubIf`
unfoldable pub gosub_if_row : Row
gosub_if_row arguments cell = gosub_if (chosen_side arguments) cell

-- the move back to a place, if there is one
abbrev pub back_to : Option Place → Move
back_to None = Hang
back_to (Some place) = Jump (To place)

-- the end of a subroutine, given the store and the place that its frame leaves
abbrev pub return_outcome : CellOf → StoreOf Place × Option Place → Outcome
return_outcome cell popped = record { cell = record cell { store = popped.0 }; next = back_to popped.1 }

-- the row of `Return`: it removes the innermost frame, then sets the value
unfoldable pub return_row : Row
return_row arguments cell =
    return_outcome cell (popped_setting cell.store (codes "GOSUB_RETVAL") arguments (innermost cell.store.frames))

-- the row of `StackPop`
abbrev pub stack_pop_row : Row
stack_pop_row arguments cell = record { cell = record cell { store = without_frame cell.store }; next = Next }
