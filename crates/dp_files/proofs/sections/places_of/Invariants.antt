use Rattle.std.proofs.Common.{◌≡◌, ◌++◌, drop, map}
use Rattle.std.specs.Option.{option_map}
use Rattle.dp_files.specs.Sections.{places_of}
use Rattle.dp_files.proofs.sections.places_of.Given as goal

abbrev pub invariant-loop-name : goal.invariant-loop-name
invariant-loop-name l =
    option_map (λ places. l.places.items ++ places) (places_of l.sections (map (λ name. name.now) (drop l.name-index l.names))) ≡ places_of l.sections (map (λ name. name.now) l.names)
