use Rattle.std.proofs.Common.{◌∙◌}
use Rattle.std.specs.Option.{option_map}
use Rattle.dp_vars.specs.Sights.{after, stored_maps, view_of}
use Rattle.dp_vars.proofs.ValuesLemmas.{value-given, value-stored, value-global}
use Rattle.dp_vars.proofs.value.variable.Goals as goal

pub returns-in-Some : goal.returns-in-Some
returns-in-Some g c =
    c.given_value.ensures
    ∙ value-given (option_map view_of c.args.scope.now.channel) (stored_maps (after c.args.scope.now.store)) c.args.scope.now.globals.now c.args.name.now c.in-Some.given c.in-Some.ensures

pub returns-in-Some-stored_value : goal.returns-in-Some-stored_value
returns-in-Some-stored_value g c =
    value-stored (option_map view_of c.args.scope.now.channel) (stored_maps (after c.args.scope.now.store)) c.args.scope.now.globals.now c.args.name.now _
    c.in_default.ensures c.in-Some-stored_value.ensures

pub returns-in-None : goal.returns-in-None
returns-in-None g c =
    value-global (option_map view_of c.args.scope.now.channel) (stored_maps (after c.args.scope.now.store)) c.args.scope.now.globals.now c.args.name.now _
    c.in_default.ensures c.in-None.ensures c.at.ensures
