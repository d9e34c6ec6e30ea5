use Rattle.std.specs.Option.{option_map}
use Rattle.dp_vars.specs.Sights.{after, stored_maps, view_of}
use Rattle.dp_vars.proofs.ValuesLemmas.{set-given, set-stored, set-global}
use Rattle.dp_vars.proofs.value.is_set.Goals as goal

pub returns-in-Some : goal.returns-in-Some
returns-in-Some g c =
    set-given (option_map view_of c.args.scope.now.channel) (stored_maps (after c.args.scope.now.store)) c.args.scope.now.globals.now c.args.name.now
    c.in-Some._given c.in-Some.ensures

pub returns-in-Some-stored_value : goal.returns-in-Some-stored_value
returns-in-Some-stored_value g c =
    set-stored (option_map view_of c.args.scope.now.channel) (stored_maps (after c.args.scope.now.store)) c.args.scope.now.globals.now c.args.name.now _
    c.in_default.ensures c.in-Some-stored_value.ensures

pub returns-in-None : goal.returns-in-None
returns-in-None g c =
    set-global (option_map view_of c.args.scope.now.channel) (stored_maps (after c.args.scope.now.store)) c.args.scope.now.globals.now c.args.name.now _
    c.in_default.ensures c.in-None.ensures c.has.ensures
