-- The picture of a dialplan.
use Rattle.std.specs.Prelude.{ℕ, ◌+◌, List, [], ◌∷◌, length, map, Option, get_or}
use Rattle.std.specs.List.{flat_map, range_with_len}
use Rattle.std.specs.Option.{option_map_or}
use Rattle.dp_pattern.specs.Spelling.{spelling}
use Rattle.dp_plan.specs.Lookup.{entry_at, includes_at, number_of}
use Rattle.dp_plan.specs.Plan.{PlanOf}
use Rattle.dp_plan.specs.declared.entry.Entry.{Entry}
use Rattle.dp_plan.specs.declared.entry.EntryId.{EntryId}
use Rattle.dp_lookup.specs.SearchOrder.{context_count}
use Rattle.dp_audit.specs.Candidates.{extensions, ranked_of}
use Rattle.dp_audit.specs.Findings.{context_name}
use Rattle.dp_graph.specs.Boxes.{Box, boxes_of}
use Rattle.dp_graph.specs.Jumps.{arrows_of}
use Rattle.dp_graph.specs.Shading.{ShadingOf}
use Rattle.dp_graph.specs.declared.arrow.Arrow.{Arrow}
use Rattle.dp_graph.specs.declared.arrows.Origin.{Origin as HeldOrigin}
use Rattle.dp_graph.specs.declared.exit.QueueExit.{QueueExit}

-- ---- includes

-- an include: the number of the context that has it, its place there, counted from 1, the name that it includes, and the number of the
-- context with that name, if there is one
pub record DrawnInclusion : Type 0 where
  pub number : ℕ
  pub place : ℕ
  pub name : List ℕ
  pub included : Option ℕ

abbrev pub inclusion_of : PlanOf → ℕ → ℕ → List ℕ → DrawnInclusion
inclusion_of plan number place name = record { number = number; place = place; name = name; included = number_of plan name }

-- the include at an index of the context with a number
abbrev pub inclusion_at : PlanOf → ℕ → ℕ → DrawnInclusion
inclusion_at plan number index = inclusion_of plan number (index + 1) (get_or (includes_at plan number) index [])

-- the includes of the context with a number
abbrev pub inclusions_at : PlanOf → ℕ → List DrawnInclusion
inclusions_at plan number = map (inclusion_at plan number) (range_with_len 0 (length (includes_at plan number)))

-- the includes of all contexts
abbrev pub inclusions_of : PlanOf → List DrawnInclusion
inclusions_of plan = flat_map (inclusions_at plan) (range_with_len 0 (context_count plan))

-- ---- arrows

-- an extension from which arrows come: the number and the name of its context, and its own name
pub record OriginOf : Type 0 where
  pub number : ℕ
  pub context : List ℕ
  pub extension : List ℕ

-- an arrow with its origin
pub record DrawnArrow : Type 0 where
  pub origin : OriginOf
  pub arrow : Arrow

-- the origin that the program keeps
abbrev pub origin_view : HeldOrigin → OriginOf
origin_view origin = record { number = origin.number; context = origin.context.now; extension = origin.extension.now }

abbrev pub origin_of : PlanOf → ℕ → Entry → OriginOf
origin_of plan number entry = record { number = number; context = context_name plan number; extension = spelling entry.name }

abbrev pub drawn_from : OriginOf → Arrow → DrawnArrow
drawn_from origin arrow = record { origin = origin; arrow = arrow }

abbrev pub drawn_all : OriginOf → List Arrow → List DrawnArrow
drawn_all origin arrows = map (drawn_from origin) arrows

-- the arrows of an extension of the context with a number, given its ranked entries
abbrev pub extension_arrows : PlanOf → List QueueExit → ℕ → List EntryId → List DrawnArrow
extension_arrows plan exits number [] = []
extension_arrows plan exits number (first ∷ ids) =
    option_map_or (λ entry. drawn_all (origin_of plan number entry) (arrows_of plan exits (first ∷ ids))) (entry_at plan first) []

-- the arrows of the context with a number
abbrev pub context_arrows : PlanOf → List QueueExit → ℕ → List DrawnArrow
context_arrows plan exits number = flat_map (extension_arrows plan exits number) (extensions plan (ranked_of plan number))

-- the arrows of all contexts
abbrev pub all_arrows : PlanOf → List QueueExit → List DrawnArrow
all_arrows plan exits = flat_map (context_arrows plan exits) (range_with_len 0 (context_count plan))

-- ---- the whole

-- a picture: its boxes, the includes between them, and the arrows of their rows
pub record Picture : Type 0 where
  pub boxes : List Box
  pub inclusions : List DrawnInclusion
  pub arrows : List DrawnArrow

-- the picture of a dialplan, given what its fills say, and the ways out of queues
unfoldable pub picture_of : PlanOf → ShadingOf → List QueueExit → Picture
picture_of plan shading exits =
    record { boxes = boxes_of plan shading; inclusions = inclusions_of plan; arrows = all_arrows plan exits }
