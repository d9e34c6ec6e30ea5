use Rattle.std.proofs.Common.{◌≡◌, take}
use Rattle.dp_machine.specs.Seen.{globals_set}
use Rattle.dp_machine.proofs.shared_state.set_globals.Given as goal

abbrev pub invariant-loop-variable : goal.invariant-loop-variable
invariant-loop-variable g l = l.globals ≡ globals_set g.F.Functions.table (g.C.Counts.count l.counts) l.fn.globals (take l.variable-index l.variables)
