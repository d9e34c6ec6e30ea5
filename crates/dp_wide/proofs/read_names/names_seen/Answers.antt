use Rattle.std.specs.Option.{option_map}
use Rattle.dp_vars.specs.Sights.{after, stored_maps, view_of}
use Rattle.dp_wide.proofs.ReadNamesLemmas.{seen-global, seen-stored}
use Rattle.dp_wide.proofs.read_names.names_seen.Goals as goal

pub returns-in-Some : goal.returns-in-Some
returns-in-Some g c =
    seen-stored (option_map view_of c.args.scope.now.channel) (stored_maps (after c.args.scope.now.store)) c.args.scope.now.globals.now
    c.in-Some.names.now c.in-Some.ensures

pub returns-in-None : goal.returns-in-None
returns-in-None g c =
    seen-global (option_map view_of c.args.scope.now.channel) (stored_maps (after c.args.scope.now.store)) c.args.scope.now.globals.now
    _ c.in-None.ensures c.names_in_globals.ensures
