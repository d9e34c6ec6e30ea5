use Rattle.std.proofs.Common.{◌≡◌, drop}
use Rattle.dp_lookup.specs.FoundEntry.{found_by}
use Rattle.dp_lookup.specs.steps.Questions.{asks}
use Rattle.dp_lookup.proofs.look_up.find_first.Given as goal

abbrev pub invariant-loop-number : goal.invariant-loop-number
invariant-loop-number l =
    found_by l.plan (asks l.question l.text) (drop l.number-index l.order) ≡ found_by l.plan (asks l.question l.text) l.order
