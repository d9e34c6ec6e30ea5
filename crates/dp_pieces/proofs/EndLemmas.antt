-- Texts that end like their shapes.
use Rattle.std.proofs.Common.{◌≡◌, ℕ, List, [], ◌∷◌, ◌++◌, length, sym, ap, ◌∙◌, arith}
use Rattle.std.proofs.lemmas.List.{append_assoc, length-append}
use Rattle.dp_pieces.specs.Pieces.{AnyOf, Fits, Known, OneOf, PieceOf}

-- a text of pieces that end with a known byte ends with that byte
pub fits-last : (front : List PieceOf) (byte : ℕ) (text : List ℕ) → Fits (front ++ Known byte ∷ []) text → (before : List ℕ) × (text ≡ before ++ byte ∷ [])
unfolding Fits
fits-last [] byte text fits = ([], fits.1 ∙ ap (λ (t : List ℕ). byte ∷ t) fits.2)
fits-last (Known b ∷ front) byte text fits =
    let later = fits-last front byte fits.0 fits.2 in (b ∷ later.0, fits.1 ∙ ap (λ (t : List ℕ). b ∷ t) later.1)
fits-last (OneOf set ∷ front) byte text fits =
    let later = fits-last front byte fits.0.1 fits.3 in (fits.0.0 ∷ later.0, fits.1 ∙ ap (λ (t : List ℕ). fits.0.0 ∷ t) later.1)
fits-last (AnyOf set ∷ front) byte text fits =
    let later = fits-last front byte fits.0.1 fits.3 in
    (fits.0.0 ++ later.0, fits.1 ∙ (ap (λ (t : List ℕ). fits.0.0 ++ t) later.1 ∙ sym (append_assoc fits.0.0 later.0 (byte ∷ []))))

-- two equal texts end with the same byte
pub same-last : (xs ys : List ℕ) (a b : ℕ) → xs ++ a ∷ [] ≡ ys ++ b ∷ [] → a ≡ b
same-last [] [] a b is = cc
same-last [] (y ∷ ys) a b is = let far : 1 ≡ length (y ∷ (ys ++ b ∷ [])) = ap length is in absurd (omega (arith, far, length-append ys (b ∷ [])))
same-last (x ∷ xs) [] a b is = let far : length (x ∷ (xs ++ a ∷ [])) ≡ 1 = ap length is in absurd (omega (arith, far, length-append xs (a ∷ [])))
same-last (x ∷ xs) (y ∷ ys) a b is = let later : xs ++ a ∷ [] ≡ ys ++ b ∷ [] = cc in same-last xs ys a b later
