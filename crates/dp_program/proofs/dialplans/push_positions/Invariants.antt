use Rattle.std.proofs.Common.{◌≡◌, ◌++◌, drop, map}
use Rattle.dp_program.specs.Dialplans.{source_position}
use Rattle.dp_program.proofs.dialplans.push_positions.Given as goal

abbrev pub invariant-loop-line : goal.invariant-loop-line
invariant-loop-line l =
    l.positions.items ++ map (source_position l.lines) (drop l.line-index l.made) ≡ l.fn.positions.items ++ map (source_position l.lines) l.made
