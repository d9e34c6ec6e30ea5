use Rattle.std.proofs.Common.{◌≡◌, drop, map}
use Rattle.std.specs.List.{flat_map, fold}
use Rattle.dp_notices.specs.Printing.{with_assumed}
use Rattle.dp_program.specs.ScriptAssumptions.{assumed_by, names_in}
use Rattle.dp_program.proofs.assumptions.assume_lines.Given as goal

-- what is assumed so far, and by the lines that are left
abbrev pub invariant-loop-line : goal.invariant-loop-line
invariant-loop-line l =
    fold with_assumed l.assumed (flat_map names_in (map (λ line. line.now) (drop l.line-index l.lines))) ≡ assumed_by (map (λ line. line.now) l.lines)
