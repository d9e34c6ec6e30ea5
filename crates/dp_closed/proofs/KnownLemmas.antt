-- Pieces of a known text, and what is owed if a name is known.
use Rattle.std.proofs.Common.{◌≡◌, ℕ, Bool, true, false, ◌&&◌, ◌==◌, cond, List, [], ◌∷◌, Option, Some, refl, sym, ap, ◌∙◌}
use Rattle.std.specs.List.{onto_first}
use Rattle.dp_closed.specs.Steps.{known_bytes}
use Rattle.dp_conf.specs.Blanks.{trim, trim_start}
use Rattle.dp_conf.specs.Cut.{cut_once}
use Rattle.dp_conf.specs.Levels.{next_level}
use Rattle.dp_pieces.specs.Arguments.{split_pieces}
use Rattle.dp_pieces.specs.Bytes.{Bytes}
use Rattle.dp_pieces.specs.Pieces.{AnyOf, Known, OneOf, PieceOf, exactly, pieces_set}
use Rattle.dp_reach.specs.Choices.{last_part}
use Rattle.dp_reach.specs.Settings.{any_argument_duties, name_duties, pair_duties, unknown_duties}

known-exactly : (text : List ℕ) → known_bytes (exactly text) ≡ text
known-exactly [] = refl
known-exactly (byte ∷ text) = ap (λ t. byte ∷ t) (known-exactly text)

-- the bytes before a cut after a known text are that text
known-front : (front : List PieceOf) (name : List ℕ) → front ≡ exactly name → name ≡ known_bytes front
known-front front name is = sym (ap known_bytes is ∙ known-exactly name)

-- what is owed if a function's name is known
pub unknown-known : (set : Bytes) (cut : Option (List ℕ × List PieceOf)) (front rest : List PieceOf)
    → (name : List ℕ) × (cut ≡ Some (name, rest)) × (front ≡ exactly name)
    → any_argument_duties (trim_start (known_bytes front)) set ≡ unknown_duties set cut
unknown-known set cut front rest (name, is, exact) =
    ap (λ n. any_argument_duties (trim_start n) set) (sym (known-front front name exact)) ∙ ap (unknown_duties set) (sym is)

-- what is owed if a name is known
pub pair-known : (pieces : List PieceOf) (cut : Option (List ℕ × List PieceOf)) (front rest : List PieceOf)
    → (name : List ℕ) × (cut ≡ Some (name, rest)) × (front ≡ exactly name)
    → name_duties (trim (known_bytes front)) (cut_once 40 (trim (known_bytes front))) (pieces_set rest) ≡ pair_duties pieces cut
pair-known pieces cut front rest (name, is, exact) =
    ap (λ n. name_duties (trim n) (cut_once 40 (trim n)) (pieces_set rest)) (sym (known-front front name exact)) ∙ ap (pair_duties pieces) (sym is)

-- the last of several parts is the last of those after the first
onto-more : (part : List PieceOf) (piece : PieceOf) (parts : List (List PieceOf)) → last_part (part ∷ onto_first piece parts) ≡ last_part (onto_first piece parts)
onto-more part piece [] = refl
onto-more part piece (next ∷ parts) = refl

pub split-more : (part : List PieceOf) (level : ℕ) (pieces : List PieceOf) → last_part (part ∷ split_pieces level pieces) ≡ last_part (split_pieces level pieces)
unfolding split_pieces
split-more part level [] = refl
split-more part level (Known byte ∷ pieces) = by (byte == 44 && level == 0)
  where
    by : (here : Bool) → last_part (part ∷ cond here ([] ∷ split_pieces (next_level level byte) pieces) (onto_first (Known byte) (split_pieces (next_level level byte) pieces)))
        ≡ last_part (cond here ([] ∷ split_pieces (next_level level byte) pieces) (onto_first (Known byte) (split_pieces (next_level level byte) pieces)))
    by true = refl
    by false = onto-more part (Known byte) (split_pieces (next_level level byte) pieces)
split-more part level (OneOf set ∷ pieces) = onto-more part (OneOf set) (split_pieces level pieces)
split-more part level (AnyOf set ∷ pieces) = onto-more part (AnyOf set) (split_pieces level pieces)
