use Rattle.std.proofs.Common.{◌≡◌, drop}
use Rattle.std.specs.List.{find}
use Rattle.dp_lookup.specs.FoundEntry.{passes}
use Rattle.dp_lookup.specs.steps.Questions.{asks}
use Rattle.dp_lookup.proofs.look_up.first_of.Given as goal

abbrev pub invariant-loop-id : goal.invariant-loop-id
invariant-loop-id l =
    find (passes l.plan (asks l.question l.text)) (drop l.id-index l.ids) ≡ find (passes l.plan (asks l.question l.text)) l.ids
