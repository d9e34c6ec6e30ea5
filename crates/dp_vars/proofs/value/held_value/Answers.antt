use Rattle.dp_vars.specs.Sights.{after, stored_maps}
use Rattle.dp_vars.proofs.ValuesLemmas.{held-stored, held-global}
use Rattle.dp_vars.proofs.value.held_value.Goals as goal

pub returns-in-Some : goal.returns-in-Some
returns-in-Some g c =
    held-stored (stored_maps (after c.args.scope.now.store)) c.args.scope.now.globals.now c.args.name.now _ c.in-Some.ensures

pub returns-in-None : goal.returns-in-None
returns-in-None g c =
    held-global (stored_maps (after c.args.scope.now.store)) c.args.scope.now.globals.now c.args.name.now _ c.in-None.ensures c.get.ensures
