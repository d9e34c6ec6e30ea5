use Rattle.std.proofs.Common.{◌≡◌, ◌++◌, length, map}
use Rattle.dp_wide_runs.specs.FunctionsCalled.{no_functions_in}
use Rattle.dp_wide_runs.specs.declared.wide_finding.WideFinding.TheVariants.{NoFunction}
use Rattle.dp_wide_runs.proofs.functions_called.push_names.Given as goal

abbrev pub invariant-loop-byte : goal.invariant-loop-byte
invariant-loop-byte l =
    l.list.items ++ map (NoFunction l.entry) (no_functions_in l.left) ≡ l.initial.list.items ++ map (NoFunction l.entry) (no_functions_in l.text)

abbrev pub decreases-loop-byte : goal.decreases-loop-byte
decreases-loop-byte l = length l.left
