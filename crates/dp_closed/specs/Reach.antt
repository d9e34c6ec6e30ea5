-- The areas of a reach that is indexed by the numbers of contexts.
use Rattle.std.specs.Prelude.{ℕ, List, [], ◌∷◌, ◌++◌, ◌⊎◌, map, slice_get}
use Rattle.std.specs.Global.{Vec}
use Rattle.std.specs.Option.{option_map_or}
use Rattle.dp_pieces.specs.Pieces.{Fits, exactly}
use Rattle.dp_pieces.specs.Shown.{shown_all}
use Rattle.dp_pieces.specs.declared.piece.Piece.{Piece}
use Rattle.dp_plan.specs.Contexts.{PlanContext}
use Rattle.dp_reach.specs.Areas.{Area, area_at}

-- the text has one of these shapes
abbrev pub FitsAny : List (Vec Piece) → List ℕ → Type 0
FitsAny [] text = ⊥
FitsAny (shape ∷ shapes) text = Fits (shown_all shape.items) text ⊎ FitsAny shapes text

-- the shapes of the context with a number
abbrev pub shapes_at : List (Vec (Vec Piece)) → ℕ → List (Vec Piece)
shapes_at contexts number = option_map_or (λ shapes. shapes.items) (slice_get contexts number) []

-- the areas of the contexts, in order
abbrev pub areas_in : List PlanContext → List (Vec (Vec Piece)) → List Area
areas_in [] shapes = []
areas_in (context ∷ contexts) [] = []
areas_in (context ∷ contexts) (own ∷ shapes) =
    map (λ shape. area_at (exactly context.name) (shown_all shape.items)) own.items ++ areas_in contexts shapes
