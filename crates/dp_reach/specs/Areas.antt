-- Areas of a dialplan: places with a known shape of the context and of the extension.
use Rattle.std.specs.Prelude.{◌≡◌, ℕ, Bool, true, false, List, [], ◌∷◌, ◌++◌, ◌⊎◌, None, map, if◌then◌else◌}
use Rattle.std.specs.List.{AllByRecursion}
use Rattle.dp_pattern.specs.Name.{Meaning}
use Rattle.dp_plan.specs.Lookup.{number_of}
use Rattle.dp_plan.specs.Plan.{PlanOf}
use Rattle.dp_app.specs.declared.place.Place.{Place}
use Rattle.dp_pieces.specs.Arguments.{are_clean, shapes_of}
use Rattle.dp_pieces.specs.Bytes.{Bytes}
use Rattle.dp_pieces.specs.Met.{after_match}
use Rattle.dp_pieces.specs.Names.{Names}
use Rattle.dp_pieces.specs.Pieces.{AnyOf, Fits, Known, OneOf, PieceOf, exactly, any_bytes_of, pieces_set}

-- the shapes of the context and of the extension of a place
pub record Area : Type 0 where
  pub context : List PieceOf
  pub exten : List PieceOf

-- the place is in the area
pub record IsIn (area : Area) (place : Place) : Type 0 where
  pub context : Fits area.context place.context
  pub exten : Fits area.exten place.exten

-- the place is in one of several areas
abbrev pub IsInOne : List Area → Place → Type 0
IsInOne [] place = ⊥
IsInOne (area ∷ areas) place = IsIn area place ⊎ IsInOne areas place

-- the dialplan has no context with this name, so nothing is found there
abbrev pub IsUnknown : PlanOf → List ℕ → Type 0
IsUnknown plan context = number_of plan context ≡ None

-- the place is in one of the areas, or in a context that the dialplan lacks
abbrev pub Covers : PlanOf → List Area → Place → Type 0
Covers plan areas place = IsUnknown plan place.context ⊎ IsInOne areas place

-- the reach covers each place of the area, and of each of several areas
abbrev pub Includes : PlanOf → List Area → Area → Type 0
Includes plan reach area = (place : Place) → IsIn area place → Covers plan reach place

abbrev pub IncludesAll : PlanOf → List Area → List Area → Type 0
IncludesAll plan reach areas = AllByRecursion (Includes plan reach) areas

-- whether a text of this shape may be empty
abbrev pub may_be_empty : List PieceOf → Bool
may_be_empty [] = true
may_be_empty (Known byte ∷ pieces) = false
may_be_empty (OneOf set ∷ pieces) = false
may_be_empty (AnyOf set ∷ pieces) = may_be_empty pieces

-- a part of a target; an empty part means the channel's own
abbrev pub or_own : List PieceOf → List PieceOf → List (List PieceOf)
or_own own [] = own ∷ []
or_own own (piece ∷ pieces) = if may_be_empty (piece ∷ pieces) then (piece ∷ pieces) ∷ own ∷ [] else (piece ∷ pieces) ∷ []

-- the area with these shapes of the context and of the extension
abbrev pub area_at : List PieceOf → List PieceOf → Area
area_at context exten = record { context = context; exten = exten }

abbrev pub areas_of : List (List PieceOf) → List (List PieceOf) → List Area
areas_of [] extens = []
areas_of (context ∷ contexts) extens = map (area_at context) extens ++ areas_of contexts extens

-- where the parts of a target may lead from an area; more than three lead nowhere
abbrev pub targets_of : Area → List (List PieceOf) → List Area
targets_of area [] = []
targets_of area (priority ∷ []) = area ∷ []
targets_of area (exten ∷ priority ∷ []) = areas_of (area.context ∷ []) (or_own area.exten exten)
targets_of area (context ∷ exten ∷ priority ∷ []) = areas_of (or_own area.context context) (or_own area.exten exten)
targets_of area (a ∷ b ∷ c ∷ d ∷ shapes) = []

-- where any parts with these bytes may lead
abbrev pub targets_within : Area → Bytes → List Area
targets_within area set = areas_of (any_bytes_of set ∷ area.context ∷ []) (any_bytes_of set ∷ area.exten ∷ [])

-- where a target in pieces may lead from an area
abbrev pub targets : Area → List PieceOf → List Area
targets area pieces = if are_clean 0 pieces then targets_of area (shapes_of pieces) else targets_within area (pieces_set pieces)

-- an extension in the context of an area
abbrev pub beside : Area → List ℕ → Area
beside area exten = area_at area.context (exactly exten)

-- what is known of a place of an area whose extension matches the name
abbrev pub area_matched : Area → Meaning → Area
area_matched area name = area_at area.context (after_match area.exten name)

-- the names that the texts of a channel in an area read
abbrev pub names_at : Names → Area → Names
names_at names area = record names { exten = area.exten; context = area.context }
