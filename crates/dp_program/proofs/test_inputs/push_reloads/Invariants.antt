use Rattle.std.proofs.Common.{◌≡◌, ◌++◌, drop, map}
use Rattle.std.specs.List.{flat_map}
use Rattle.dp_program.specs.TestFiles.{named_now, reload_in}
use Rattle.dp_program.proofs.test_inputs.push_reloads.Given as goal

abbrev pub invariant-loop-line : goal.invariant-loop-line
invariant-loop-line l =
    map named_now l.named.items ++ flat_map reload_in (drop l.line-index l.lines) ≡ map named_now l.fn.named.items ++ flat_map reload_in l.lines
