use Rattle.std.proofs.Common.{take}
use Rattle.std.specs.List.{list_any}
use Rattle.dp_audit.specs.Findings.{is_first}
use Rattle.dp_audit.specs.steps.Firsts.{Adds}
use Rattle.dp_audit.proofs.firsts.insert_firsts.Given as goal

abbrev pub invariant-loop-entry : goal.invariant-loop-entry
invariant-loop-entry l = Adds (λ text. list_any (is_first text) (take l.entry-index l.entries)) l.initial.names.keys l.names.keys
