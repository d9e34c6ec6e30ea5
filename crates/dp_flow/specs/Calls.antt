-- The target of a subroutine, as the code holds it.
use Rattle.dp_flow.specs.Jumps.{SubroutineCallOf, inner_arguments}
use Rattle.dp_flow.specs.declared.gosub.SubroutineCall.{SubroutineCall as called_type}

-- the priority and arguments of a target
abbrev pub called_now : called_type → SubroutineCallOf
called_now c = record { priority = c.priority.now; arguments = inner_arguments c.arguments.now }
