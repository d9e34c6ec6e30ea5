use Rattle.dp_plan.proofs.PlaceLemmas.{none_taken}
use Rattle.dp_plan.proofs.taken_places.TakenPlaces.new.Goals as goal

pub invariant_of-result : goal.invariant_of-result
invariant_of-result c = none_taken c.new-2.result.items c.new.result.items c.new.ensures.items
