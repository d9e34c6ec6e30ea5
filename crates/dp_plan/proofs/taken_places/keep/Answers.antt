use Rattle.std.proofs.Common.{◌∙◌, ap}
use Rattle.dp_plan.specs.steps.Places.{slots_in}
use Rattle.dp_plan.proofs.PlaceLemmas.{inserted_free}
use Rattle.dp_plan.proofs.taken_places.keep.Goals as goal

pub returns-in_ok-insert-in-Looked-clause-ok : goal.returns-in_ok-insert-in-Looked-clause-ok
returns-in_ok-insert-in-Looked-clause-ok c =
    c.in_ok-insert-in-Looked.ensures.keys ∙ inserted_free c.args.kept.now c.in-Looked.table.keys c.args.slot c.requires (ap slots_in c.in-Looked.is)
