-- The text of pieces in front of a byte that are all known.
use Rattle.std.proofs.Common.{◌≡◌, ℕ, List, Option, Some, None, sym, ap, ◌∙◌, subst}
use Rattle.std.specs.Prelude.{MatchOption}
use Rattle.std.specs.Global.{Vec}
use Rattle.dp_pieces.specs.Pieces.{PieceOf, exactly, text_known}
use Rattle.dp_pieces.proofs.SetLemmas.{never-unknown, text-exactly}

module _ (text : Option (Vec ℕ)) (cut : Option (List ℕ × List PieceOf)) (front rest : List PieceOf) (known : MatchOption text (text_known front ≡ None) (λ bytes. text_known front ≡ Some bytes.items))
    (headed : (name : List ℕ) × (cut ≡ Some (name, rest)) × (front ≡ exactly name)) where
  -- there is such a text
  pub front-never : text ≡ None → None ≡ cut
  front-never none =
      absurd (never-unknown front headed.0 (subst (λ (t : Option (Vec ℕ)). MatchOption t (text_known front ≡ None) (λ bytes. text_known front ≡ Some bytes.items)) none known) headed.2)

  -- and it is the text before the byte
  pub front-known : (bytes : Vec ℕ) → text ≡ Some bytes → Some (bytes.items, rest) ≡ cut
  front-known bytes some =
      ap (λ t. Some (t, rest))
      (text-exactly front bytes.items headed.0 (subst (λ (t : Option (Vec ℕ)). MatchOption t (text_known front ≡ None) (λ bytes. text_known front ≡ Some bytes.items)) some known) headed.2)
      ∙ sym headed.1
