use Rattle.std.proofs.Common.{drop, map}
use Rattle.dp_program.specs.TestFiles.{AreReloads, ReloadsOf, named_now, no_reloads, reloads_now}
use Rattle.dp_program.proofs.test_inputs.read_reloads.Given as goal

-- what follows from the lines left follows from all lines
abbrev pub invariant-loop-named : goal.invariant-loop-named
invariant-loop-named g l =
    (after : ReloadsOf) → AreReloads (g.F.ReadFiles.source_at l.files) l.reading l.path (map named_now (drop l.named-index l.lines)) (reloads_now l.reloads) after
    → AreReloads (g.F.ReadFiles.source_at l.files) l.reading l.path (map named_now l.lines) no_reloads after
