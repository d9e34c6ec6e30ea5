-- A text is cut at the last such byte where its pieces are, and after a known text.
use Rattle.std.proofs.Common.{◌≡◌, ℕ, ◌==◌, Bool, true, false, List, [], ◌∷◌, ◌++◌, Option, Some, None, refl, sym, ap, ◌∙◌, subst, if◌then◌else◌}
use borrow.Author.Tests.{eqb-true}
use Rattle.std.specs.Option.{option_map_or}
use Rattle.dp_conf.proofs.TextLemmas.{Avoids, cut_once-here}
use Rattle.dp_conf.specs.Cut.{before_last, cut_once}
use Rattle.dp_pieces.specs.Bytes.{Bytes, Within}
use Rattle.dp_pieces.specs.Cuts.{At, CuttingOf, Nowhere, Unsure, cut_known, cut_last, last_known, last_unknown, with_byte}
use Rattle.dp_pieces.specs.Fitting.{IsCutKnown, IsLast}
use Rattle.dp_pieces.specs.Pieces.{AnyOf, Fits, Known, OneOf, PieceOf}

-- the cut of a text, given that of the text after its first byte
cut_with_byte : ℕ → ℕ → Option (List ℕ) → Option (List ℕ)
cut_with_byte mark byte o = option_map_or (λ front. Some (byte ∷ front)) o (if byte == mark then Some [] else None)

before-known : (mark byte : ℕ) (cutting : CuttingOf) (o : Option (List ℕ)) → IsLast cutting o → IsLast (last_known mark byte cutting) (cut_with_byte mark byte o)
unfolding cut_with_byte Fits
before-known mark byte Unsure o is = tt
before-known mark byte (At pieces rest) None is = absurd is
before-known mark byte (At pieces rest) (Some front) is = (front, refl, is)
before-known mark byte Nowhere None is = by (byte == mark)
  where
    by : (b : Bool) → IsLast (if b then At [] [] else Nowhere) (if b then Some [] else None)
    by true = refl
    by false = refl
before-known mark byte Nowhere (Some front) is = absurd cc

-- a byte of a set without the mark
no-cut : (mark byte : ℕ) (set : Bytes) → set byte ≡ true → set mark ≡ false → (o : Option (List ℕ)) → o ≡ None → cut_with_byte mark byte o ≡ None
unfolding cut_with_byte
no-cut mark byte set here gone o is = by o is (apart (byte == mark) refl)
  where
    apart : (b : Bool) → (byte == mark) ≡ b → b ≡ false
    apart true same = let e : byte ≡ mark = eqb-true byte mark same in absurd cc
    apart false same = refl

    by : (o : Option (List ℕ)) → o ≡ None → (byte == mark) ≡ false → option_map_or (λ front. Some (byte ∷ front)) o (if byte == mark then Some [] else None) ≡ None
    by None is differs = ap (λ b. if b then Some [] else None) differs
    by (Some front) is differs = absurd cc

before-one : (mark byte : ℕ) (set : Bytes) → set byte ≡ true → (cutting : CuttingOf) (o : Option (List ℕ)) → IsLast cutting o
    → IsLast (last_unknown mark set (OneOf set) cutting) (cut_with_byte mark byte o)
unfolding cut_with_byte Fits
before-one mark byte set here Unsure o is = tt
before-one mark byte set here (At pieces rest) None is = absurd is
before-one mark byte set here (At pieces rest) (Some front) is = ((byte, front), refl, here, is)
before-one mark byte set here Nowhere o is = by (set mark) refl
  where
    by : (b : Bool) → set mark ≡ b → IsLast (if b then Unsure else Nowhere) (cut_with_byte mark byte o)
    by true has = tt
    by false gone = no-cut mark byte set here gone o is

-- the same for one more byte of a piece with any number of bytes
before-more : (mark byte : ℕ) (set : Bytes) → set byte ≡ true → (cutting : CuttingOf) (o : Option (List ℕ)) → IsLast (last_unknown mark set (AnyOf set) cutting) o
    → IsLast (last_unknown mark set (AnyOf set) cutting) (cut_with_byte mark byte o)
unfolding cut_with_byte Fits
before-more mark byte set here Unsure o is = tt
before-more mark byte set here (At pieces rest) None is = absurd is
before-more mark byte set here (At pieces rest) (Some front) is = ((byte ∷ is.0.0, is.0.1), ap (λ bs. byte ∷ bs) is.1, (here, is.2), is.3)
before-more mark byte set here Nowhere o is = by (set mark) refl is
  where
    by : (b : Bool) → set mark ≡ b → IsLast (if b then Unsure else Nowhere) o → IsLast (if b then Unsure else Nowhere) (cut_with_byte mark byte o)
    by true has is = tt
    by false gone is = no-cut mark byte set here gone o is

before-any : (mark : ℕ) (set : Bytes) (cutting : CuttingOf) (front text : List ℕ) → Within set front → IsLast cutting (before_last mark text)
    → IsLast (last_unknown mark set (AnyOf set) cutting) (before_last mark (front ++ text))
unfolding cut_with_byte Fits
before-any mark set cutting [] text within is = by cutting (before_last mark text) is
  where
    none : (b : Bool) (o : Option (List ℕ)) → o ≡ None → IsLast (if b then Unsure else Nowhere) o
    none true o is = tt
    none false o is = is

    by : (cutting : CuttingOf) (o : Option (List ℕ)) → IsLast cutting o → IsLast (last_unknown mark set (AnyOf set) cutting) o
    by Nowhere o is = none (set mark) o is
    by Unsure o is = tt
    by (At pieces rest) None is = is
    by (At pieces rest) (Some front) is = (([], front), refl, tt, is)
before-any mark set cutting (byte ∷ front) text within is =
    before-more mark byte set within.0 cutting (before_last mark (front ++ text)) (before-any mark set cutting front text within.1 is)

-- the text before the last such byte
pub last-fits : (mark : ℕ) (pieces : List PieceOf) (text : List ℕ) → Fits pieces text → IsLast (cut_last mark pieces) (before_last mark text)
unfolding Fits cut_with_byte
last-fits mark [] text fits = subst (λ t. IsLast Nowhere (before_last mark t)) (sym fits) refl
last-fits mark (Known byte ∷ pieces) text fits =
    subst (λ t. IsLast (cut_last mark (Known byte ∷ pieces)) (before_last mark t)) (sym fits.1)
    (before-known mark byte (cut_last mark pieces) (before_last mark fits.0) (last-fits mark pieces fits.0 fits.2))
last-fits mark (OneOf set ∷ pieces) text fits =
    subst (λ t. IsLast (cut_last mark (OneOf set ∷ pieces)) (before_last mark t)) (sym fits.1)
    (before-one mark fits.0.0 set fits.2 (cut_last mark pieces) (before_last mark fits.0.1) (last-fits mark pieces fits.0.1 fits.3))
last-fits mark (AnyOf set ∷ pieces) text fits =
    subst (λ t. IsLast (cut_last mark (AnyOf set ∷ pieces)) (before_last mark t)) (sym fits.1)
    (before-any mark set (cut_last mark pieces) fits.0.0 fits.0.1 fits.2 (last-fits mark pieces fits.0.1 fits.3))

-- a text that begins with a known text before a byte that is not in it
pub record IsHeaded (mark : ℕ) (cut : List ℕ × List PieceOf) (text : List ℕ) : Type 0 where
  pub rest : List ℕ
  pub whole : text ≡ cut.0 ++ mark ∷ rest
  pub avoids : Avoids mark cut.0
  pub fits : Fits cut.1 rest

pub known_cut_heads : (mark : ℕ) (pieces : List PieceOf) (text : List ℕ) (cut : List ℕ × List PieceOf) → cut_known mark pieces ≡ Some cut → Fits pieces text → IsHeaded mark cut text
unfolding Fits
known_cut_heads mark [] text cut is fits = absurd cc
known_cut_heads mark (OneOf set ∷ pieces) text cut is fits = absurd cc
known_cut_heads mark (AnyOf set ∷ pieces) text cut is fits = absurd cc
known_cut_heads mark (Known byte ∷ pieces) text cut is fits = by (byte == mark) refl (λ c from. known_cut_heads mark pieces fits.0 c from fits.2) is
  where
    at : (c : List ℕ × List PieceOf) → c ≡ cut → IsHeaded mark c text → IsHeaded mark cut text
    at c same known = subst (λ (k : List ℕ × List PieceOf). IsHeaded mark k text) same known

    later : (o : Option (List ℕ × List PieceOf)) → cut_known mark pieces ≡ o → with_byte byte o ≡ Some cut → (byte == mark) ≡ false
        → ((c : List ℕ × List PieceOf) → cut_known mark pieces ≡ Some c → IsHeaded mark c fits.0) → IsHeaded mark cut text
    later None from same other more = absurd cc
    later (Some c) from same other more =
        let known = more c from in
        at (byte ∷ c.0, c.1) (cc)
        (record { rest = known.rest; whole = fits.1 ∙ ap (λ bs. byte ∷ bs) known.whole; avoids = (other, known.avoids); fits = known.fits })

    by : (b : Bool) → (byte == mark) ≡ b → ((c : List ℕ × List PieceOf) → cut_known mark pieces ≡ Some c → IsHeaded mark c fits.0)
        → (if b then Some ([], pieces) else with_byte byte (cut_known mark pieces)) ≡ Some cut → IsHeaded mark cut text
    by true here more same =
        at ([], pieces) (cc) (record { rest = fits.0; whole = fits.1 ∙ ap (λ b. b ∷ fits.0) (eqb-true byte mark here); avoids = tt; fits = fits.2 })
    by false other more same = later (cut_known mark pieces) refl same other more

pub known-fits : (mark : ℕ) (pieces : List PieceOf) (text : List ℕ) → Fits pieces text → IsCutKnown mark (cut_known mark pieces) text
known-fits mark pieces text fits = by (cut_known mark pieces) refl
  where
    by : (o : Option (List ℕ × List PieceOf)) → cut_known mark pieces ≡ o → IsCutKnown mark o text
    by None from = tt
    by (Some cut) from =
        let known = known_cut_heads mark pieces text cut from fits in
        (known.rest, ap (cut_once mark) known.whole ∙ cut_once-here mark cut.0 known.rest known.avoids, known.fits)
