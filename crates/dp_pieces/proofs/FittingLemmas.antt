-- Texts that fit pieces, byte by byte.
use Rattle.std.proofs.Common.{◌≡◌, ℕ, true, false, List, [], ◌∷◌, eq-eqb, length, arith, refl, ap, subst}
use Rattle.dp_pieces.specs.Pieces.{AnyOf, Fits, Known, OneOf, PieceOf, piece_set}
use Rattle.dp_pieces.specs.ShapeSteps.{is_any}
use Rattle.dp_pieces.specs.Shown.{shown_piece, shown_all}
use Rattle.dp_pieces.specs.declared.piece.Piece.{Piece as KeptPiece}

-- the first byte of a text, if the first piece has one byte
byte-fits : (piece : PieceOf) (later : List PieceOf) (byte : ℕ) (after : List ℕ) → is_any piece ≡ false → Fits (piece ∷ later) (byte ∷ after)
    → (piece_set piece byte ≡ true) × Fits later after
unfolding Fits
byte-fits (Known only) later byte after one fits =
    let same : byte ≡ only = cc in
    (eq-eqb byte only same, subst (Fits later) (let rest : fits.0 ≡ after = cc in rest) fits.2)
byte-fits (OneOf set) later byte after one fits =
    (subst (λ b. set b ≡ true) (let same : fits.0.0 ≡ byte = cc in same) fits.2, subst (Fits later) (let rest : fits.0.1 ≡ after = cc in rest) fits.3)
byte-fits (AnyOf set) later byte after one fits = absurd cc

pub first-fits : (left later : List KeptPiece) (piece : KeptPiece) (rest after : List ℕ) (byte : ℕ) → left ≡ piece ∷ later → rest ≡ byte ∷ after → is_any (shown_piece piece) ≡ false
    → Fits (shown_all left) rest → (piece_set (shown_piece piece) byte ≡ true) × Fits (shown_all later) after
first-fits left later piece rest after byte is at one fits =
    byte-fits (shown_piece piece) (shown_all later) byte after one (subst (Fits (shown_piece piece ∷ shown_all later)) at (subst (λ ps. Fits (shown_all ps) rest) is fits))

-- a list of length zero
no-items : {X : Type 0} (xs : List X) → length xs ≡ 0 → xs ≡ []
no-items [] is = refl
no-items (x ∷ xs) is = absurd (omega (arith, is))

-- the empty text has no first byte
none-fits : (piece : PieceOf) (later : List PieceOf) → is_any piece ≡ false → Fits (piece ∷ later) [] → ⊥
unfolding Fits
none-fits (Known only) later one fits = let no : [] ≡ only ∷ fits.0 = fits.1 in let bottom : ⊥ = cc in bottom
none-fits (OneOf set) later one fits = let no : [] ≡ fits.0.0 ∷ fits.0.1 = fits.1 in let bottom : ⊥ = cc in bottom
none-fits (AnyOf set) later one fits = absurd cc

pub empty-fits : (left later : List KeptPiece) (piece : KeptPiece) (rest : List ℕ) → left ≡ piece ∷ later → length rest ≡ 0 → is_any (shown_piece piece) ≡ false
    → Fits (shown_all left) rest → ⊥
empty-fits left later piece rest is at one fits =
    none-fits (shown_piece piece) (shown_all later) one (subst (Fits (shown_piece piece ∷ shown_all later)) (no-items rest at) (subst (λ ps. Fits (shown_all ps) rest) is fits))

-- no pieces, no text
pub over-fits : (left : List KeptPiece) (rest : List ℕ) → length left ≡ 0 → Fits (shown_all left) rest → length rest ≡ 0
unfolding Fits
over-fits left rest is fits = let ends : Fits [] rest = subst (λ ps. Fits (shown_all ps) rest) (no-items left is) fits in ap length ends
