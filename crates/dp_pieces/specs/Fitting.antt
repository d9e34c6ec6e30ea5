-- Texts that fit lists of pieces, one by one, and texts that are cut like their pieces.
use Rattle.std.specs.Prelude.{◌≡◌, ℕ, List, [], ◌∷◌, Option, Some, None}
use Rattle.dp_conf.specs.Cut.{cut_once}
use Rattle.dp_pieces.specs.Cuts.{At, CuttingOf, Nowhere, Unsure}
use Rattle.dp_pieces.specs.Pieces.{Fits, PieceOf}

-- texts fit lists of pieces, and there are as many of both
abbrev pub AllFit : List (List PieceOf) → List (List ℕ) → Type 0
AllFit [] [] = Unit {0}
AllFit [] (text ∷ texts) = ⊥
AllFit (pieces ∷ more) [] = ⊥
AllFit (pieces ∷ more) (text ∷ texts) = Fits pieces text × AllFit more texts

-- a text is cut like its pieces; if their cut is not known, nothing is claimed
abbrev pub IsCutAs : CuttingOf → Option (List ℕ × List ℕ) → Type 0
IsCutAs Nowhere cut = cut ≡ None
IsCutAs Unsure cut = Unit {0}
IsCutAs (At front rest) None = ⊥
IsCutAs (At front rest) (Some cut) = Fits front cut.0 × Fits rest cut.1

-- the text before the last such byte fits the pieces before it
abbrev pub IsLast : CuttingOf → Option (List ℕ) → Type 0
IsLast Nowhere front = front ≡ None
IsLast Unsure front = Unit {0}
IsLast (At pieces rest) None = ⊥
IsLast (At pieces rest) (Some front) = Fits pieces front

-- a text is cut at the first such byte after a known text; if none is known, nothing is claimed
abbrev pub IsCutKnown : ℕ → Option (List ℕ × List PieceOf) → List ℕ → Type 0
IsCutKnown mark None text = Unit {0}
IsCutKnown mark (Some cut) text = (rest : List ℕ) × (cut_once mark text ≡ Some (cut.0, rest)) × Fits cut.1 rest
