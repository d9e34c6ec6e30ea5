-- The targets of those applications of the wide table that an audit without this table does not know.
use Rattle.std.specs.Prelude.{ℕ, true, false, List, [], map, Option, Some, None, codes, if◌then◌else◌}
use Rattle.std.specs.List.{flat_map}
use Rattle.dp_conf.specs.Words.{same_word}
use Rattle.dp_audit.specs.Missing.{TargetOf}
use Rattle.dp_audit.specs.Targets.{jump_of, targets_in}
use Rattle.dp_audit.specs.declared.jump.Jump.{Jump}
use Rattle.dp_wide.specs.Choices.{exec_if_calls}

-- how an application jumps, if it does; `GotoIfTime` has sides like `GotoIf`
abbrev pub wide_jump_of : List ℕ → Option Jump
wide_jump_of name = if same_word name (codes "GotoIfTime") then Some (record { is_choice = true; is_subroutine = false }) else jump_of name

-- a target of an application that jumps in a certain way
abbrev pub target : Jump → List ℕ → TargetOf
target jump text = record { jump = jump; text = text }

-- the targets in the arguments of an application, given how it jumps, if it does
abbrev pub targets_by : Option Jump → List ℕ → List TargetOf
targets_by None arguments = []
targets_by (Some jump) arguments = map (target jump) (targets_in jump arguments)

-- the targets of an application with these arguments
abbrev pub targets_of_call : List ℕ × List ℕ → List TargetOf
targets_of_call call = targets_by (wide_jump_of call.0) call.1

-- the targets of an application with a name and arguments: those of `GotoIfTime`, and those of the jumps that an `ExecIf` may run
abbrev pub wide_targets : List ℕ → List ℕ → List TargetOf
wide_targets name arguments =
    if same_word name (codes "GotoIfTime") then targets_by (wide_jump_of name) arguments
    else if same_word name (codes "ExecIf") then flat_map targets_of_call (exec_if_calls arguments)
    else []
