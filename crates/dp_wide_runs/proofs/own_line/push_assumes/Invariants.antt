use Rattle.std.proofs.Common.{◌≡◌, ◌++◌, drop, map}
use Rattle.dp_wide_runs.specs.Lines.{assumes}
use Rattle.dp_wide_runs.proofs.own_line.push_assumes.Given as goal

abbrev pub invariant-loop-function : goal.invariant-loop-function
invariant-loop-function l =
    l.lines.items ++ map assumes (map (λ function. function.now) (drop l.function-index l.functions))
    ≡ l.fn.lines.items ++ map assumes (map (λ function. function.now) l.functions)
