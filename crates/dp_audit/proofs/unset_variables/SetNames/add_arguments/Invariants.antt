use Rattle.dp_audit.specs.Unset.{Adds, argument_names}
use Rattle.dp_audit.proofs.unset_variables.SetNames.add_arguments.Given as goal

abbrev pub invariant-loop-number : goal.invariant-loop-number
invariant-loop-number l = Adds l.initial.self l.self (argument_names l.number)
