-- Both end the call if there is no target, and otherwise go to the same one.
use Rattle.std.proofs.Common.{◌≡◌, ℕ, ◌-◌, List, Option, Some, None, length, take, refl}
use Rattle.dp_conf.specs.Levels.{arguments_of}
use Rattle.dp_app.specs.Cells.{CellOf}
use Rattle.dp_flow.specs.Jumps as jumps
use Rattle.dp_flow.specs.Jumps.{SubroutineCallOf, enter_subroutine, subroutine_call}
use Rattle.dp_wide.specs.Subroutines as spec
use Rattle.dp_wide.specs.Subroutines.{enter_counted}
use Rattle.dp_wide.proofs.subroutines.goes_where_gosub_goes.Goals as goal

same_move : (cell : CellOf) (front : List (List ℕ)) (o : Option SubroutineCallOf) → (enter_counted cell front o).next ≡ (enter_subroutine cell front o).next
same_move cell front None = refl
same_move cell front (Some c) = refl

pub returns : goal.returns
unfolding spec.gosub_row jumps.gosub_row
returns c = λ arguments cell.
    same_move cell (take (length (arguments_of arguments) - 1) (arguments_of arguments)) (subroutine_call (arguments_of arguments))
