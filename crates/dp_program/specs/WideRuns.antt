-- A run over the wide table: where the lines of its dialplans come from, and how its script runs.
use Rattle.std.specs.Option.{option_map}
use Rattle.dp_commands.specs.LinePlaces.{places_of as line_places_of}
use Rattle.dp_commands.specs.declared.in_force.PlanPlaces.{PlanPlaces}
use Rattle.dp_program.specs.Serves.{PlacesOf, RunManner, RunReading, reading_by}
use Rattle.dp_program.specs.declared.wide_runs.WideRunOf.{WideRunOf}

-- where the lines of a run's dialplans come from
abbrev pub places_of : PlanPlaces → PlacesOf
places_of places = record { plan = line_places_of places.plan; second_plan = option_map line_places_of places.second_plan }

-- how the script of a run runs
abbrev pub manner_of : WideRunOf → RunManner
manner_of asked = record { is_verbose = asked.is_verbose; held = option_map (λ word. word.now) asked.held }

-- how its dialplans are read
abbrev pub reading_of : WideRunOf → RunReading
reading_of asked = reading_by (option_map (λ word. word.now) asked.clock) asked.assumed
