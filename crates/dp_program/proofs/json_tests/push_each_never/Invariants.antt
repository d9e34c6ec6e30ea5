use Rattle.std.proofs.Common.{◌≡◌, ◌++◌, drop}
use Rattle.std.specs.List.{flat_map}
use Rattle.dp_commands.specs.LinePlaces.{places_of}
use Rattle.dp_program.specs.JsonTests.{never_line}
use Rattle.dp_program.proofs.json_tests.push_each_never.Given as goal

abbrev pub invariant-loop-id : goal.invariant-loop-id
invariant-loop-id l =
    l.out.items ++ flat_map (never_line (places_of l.places) l.loaded.lines l.loaded.plan) (drop l.id-index l.ids)
    ≡ l.fn.out.items ++ flat_map (never_line (places_of l.places) l.loaded.lines l.loaded.plan) l.ids
