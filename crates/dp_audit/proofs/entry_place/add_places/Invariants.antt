use Rattle.std.proofs.Common.{take}
use Rattle.std.specs.List.{list_any}
use Rattle.dp_audit.specs.steps.Hiding.{Adds, is_at}
use Rattle.dp_audit.proofs.entry_place.add_places.Given as goal

abbrev pub invariant-loop-entry : goal.invariant-loop-entry
invariant-loop-entry l = Adds (λ place. list_any (is_at place) (take l.entry-index l.entries)) l.initial.places.keys l.places.keys
