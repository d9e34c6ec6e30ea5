use Rattle.std.proofs.Common.{◌≡◌, ◌++◌, drop, map}
use Rattle.std.specs.List.{flat_map}
use Rattle.dp_program.specs.Hints.{near_line}
use Rattle.dp_program.specs.Nearest.{names_of, near_of}
use Rattle.dp_program.proofs.nearest.push_all.Given as goal

abbrev pub invariant-loop-near : goal.invariant-loop-near
invariant-loop-near l =
    l.hint.items ++ flat_map near_line (names_of (map near_of (drop l.near-index l.kept))) ≡ l.fn.hint.items ++ flat_map near_line (names_of (map near_of l.kept))
