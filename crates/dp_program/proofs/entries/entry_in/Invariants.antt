use Rattle.std.proofs.Common.{◌≡◌, drop, map}
use Rattle.dp_program.specs.Entries.{entry_in}
use Rattle.dp_program.proofs.entries.entry_in.Given as goal

abbrev pub invariant-loop-of : goal.invariant-loop-of
invariant-loop-of l =
    entry_in (map (λ entry. (entry.0, entry.1.now)) (drop l.of-index l.entries)) l.number
    ≡ entry_in (map (λ entry. (entry.0, entry.1.now)) l.entries) l.number
