-- The sides of a choice, and the last part of a target, in pieces.
use Rattle.std.specs.Prelude.{List, [], ◌∷◌, Option, Some, None}
use Rattle.dp_pieces.specs.Cuts.{At, CuttingOf, Nowhere, Unsure, cut_level, cut_pieces}
use Rattle.dp_pieces.specs.Pieces.{PieceOf}

-- the sides, given the text after the `?`; they are unknown if an unknown piece may separate them
abbrev pub sides_by : List PieceOf → CuttingOf → Option (List (List PieceOf))
sides_by rest Nowhere = Some (rest ∷ [])
sides_by rest Unsure = None
sides_by rest (At first second) = Some (first ∷ second ∷ [])

abbrev pub sides_of : CuttingOf → Option (List (List PieceOf))
sides_of Nowhere = Some []
sides_of Unsure = None
sides_of (At condition rest) = sides_by rest (cut_level 58 0 rest)

-- the sides of `CONDITION?SIDE:SIDE`
abbrev pub sides_in : List PieceOf → Option (List (List PieceOf))
sides_in pieces = sides_of (cut_pieces 63 pieces)

-- the last of several parts
abbrev pub last_part : List (List PieceOf) → List PieceOf
last_part [] = []
last_part (part ∷ []) = part
last_part (part ∷ next ∷ parts) = last_part (next ∷ parts)
