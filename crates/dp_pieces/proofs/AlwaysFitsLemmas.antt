-- Shapes whose texts all have another shape.
use Rattle.std.proofs.Common.{◌≡◌, ℕ, List, [], ◌∷◌, ◌++◌, length, refl, sym, ap, ◌∙◌, subst, arith}
use Rattle.dp_pieces.specs.Bytes.{Bytes, IsPart, Within}
use Rattle.dp_pieces.specs.Pieces.{AnyOf, Fits, Known, OneOf, PieceOf, any_bytes_of, pieces_set}
use Rattle.dp_pieces.specs.ShapeSteps.{AlwaysFits, AreTextsOf, IsNothing, IsWithinPiece}
use Rattle.dp_pieces.specs.Shown.{shown_all}
use Rattle.dp_pieces.specs.declared.piece.Piece.{Piece as Kept}
use Rattle.dp_pieces.proofs.FitsLemmas.{fits-any_bytes_of, fits-set}
use Rattle.dp_pieces.proofs.TakesLemmas.{none-ends}
use Rattle.dp_pieces.proofs.WithinLemmas.{within-more}

cons : (piece wide : PieceOf) (pieces other : List PieceOf) → IsWithinPiece piece wide → AlwaysFits pieces other → AlwaysFits (piece ∷ pieces) (wide ∷ other)
unfolding Fits
cons (Known byte) (Known same) pieces other is always text fits = (fits.0, fits.1 ∙ ap (λ b. b ∷ fits.0) is, always fits.0 fits.2)
cons (Known byte) (OneOf wide) pieces other is always text fits = ((byte, fits.0), fits.1, is, always fits.0 fits.2)
cons (Known byte) (AnyOf wide) pieces other is always text fits = absurd is
cons (OneOf set) (Known byte) pieces other is always text fits = absurd is
cons (OneOf set) (OneOf wide) pieces other is always text fits = (fits.0, fits.1, is fits.0.0 fits.2, always fits.0.1 fits.3)
cons (OneOf set) (AnyOf wide) pieces other is always text fits = absurd is
cons (AnyOf set) (Known byte) pieces other is always text fits = absurd is
cons (AnyOf set) (OneOf wide) pieces other is always text fits = absurd is
cons (AnyOf set) (AnyOf wide) pieces other is always text fits = (fits.0, fits.1, within-more set wide is fits.0.0 fits.2, always fits.0.1 fits.3)

-- the first pieces of both are removed, and then those with no bytes
pub fits-step : (piece wide : PieceOf) (later more left mid right after : List PieceOf) → AlwaysFits left mid → mid ≡ piece ∷ later → right ≡ wide ∷ after → AlwaysFits more after
    → IsWithinPiece piece wide → AlwaysFits later more → AlwaysFits left right
fits-step piece wide later more left mid right after forth begins widens back is always text fits =
    subst (λ ps. Fits ps text) (sym widens) (cons piece wide later after is (λ t fit. back t (always t fit)) text (subst (λ ps. Fits ps text) begins (forth text fits)))

same-first : (piece : PieceOf) (more after : List PieceOf) → AlwaysFits more after → AlwaysFits (piece ∷ more) (piece ∷ after)
same-first (Known byte) more after always = cons (Known byte) (Known byte) more after refl always
same-first (OneOf set) more after always = cons (OneOf set) (OneOf set) more after (λ byte is. is) always
same-first (AnyOf set) more after always = cons (AnyOf set) (AnyOf set) more after (λ byte is. is) always

-- the other shape is any number of bytes of a set, which contains those of the one
pub fits-any : (wide : PieceOf) (more left right after : List PieceOf) (bytes set : Bytes) → right ≡ wide ∷ after → AlwaysFits more after → wide ∷ more ≡ any_bytes_of set → ((byte : ℕ) → bytes byte ≡ pieces_set left byte) → IsPart bytes set → AlwaysFits left right
fits-any wide more left right after bytes set widens back any same part text fits =
    subst (λ ps. Fits ps text) (sym widens) (same-first wide more after back text (subst (λ ps. Fits ps text) (sym any)
    (fits-any_bytes_of set text (within-more bytes set part text (subst (λ s. Within s text) (λ i byte. sym (same byte) i) (fits-set left text fits))))))

-- one more piece with no bytes is removed
pub nothing-step : (piece : PieceOf) (after left pieces : List PieceOf) → left ≡ piece ∷ after → IsNothing piece → AreTextsOf left pieces → AreTextsOf after pieces
unfolding Fits
nothing-step (Known byte) after left pieces is nothing same = absurd nothing
nothing-step (OneOf set) after left pieces is nothing same = absurd nothing
nothing-step (AnyOf set) after left pieces is nothing same = (
  λ text fits. same.0 text (subst (λ ps. Fits ps text) (sym is) (([], text), refl, tt, fits)),
  λ text fits.
      let cut = let whole : Fits (AnyOf set ∷ after) text = subst (λ ps. Fits ps text) is (same.1 text fits) in whole in
      subst (Fits after) (sym (cut.1 ∙ ap (λ bs. bs ++ cut.0.1) (none-ends set cut.0.0 nothing cut.2))) cut.3,
)

-- both have ended
pub fits-ended : (left : List PieceOf) (mid right : List Kept) → AlwaysFits left (shown_all mid) → length mid ≡ 0 → length right ≡ 0 → AlwaysFits left (shown_all right)
fits-ended left [] [] forth ended empty text fits = forth text fits
fits-ended left [] (piece ∷ right) forth ended empty text fits = absurd (omega (arith, empty))
fits-ended left (piece ∷ mid) right forth ended empty text fits = absurd (omega (arith, ended))
