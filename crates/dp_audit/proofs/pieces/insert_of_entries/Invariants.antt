use Rattle.std.proofs.Common.{take}
use Rattle.std.specs.List.{list_any}
use Rattle.dp_audit.specs.Pieces.{holds}
use Rattle.dp_audit.specs.steps.Firsts.{Adds}
use Rattle.dp_audit.proofs.pieces.insert_of_entries.Given as goal

abbrev pub invariant-loop-entry : goal.invariant-loop-entry
invariant-loop-entry g l = Adds (λ text. list_any (holds g.N.AppNames.known text) (take l.entry-index l.entries)) l.initial.pieces.keys l.pieces.keys
