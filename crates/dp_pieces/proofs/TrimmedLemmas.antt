-- A text without the blanks at its ends fits its pieces without them.
use Rattle.std.proofs.Common.{◌≡◌, ℕ, zero, suc, ◌<◌, ◌==◌, Bool, true, false, not, ◌&&◌, nat_le, List, [], ◌∷◌, ◌++◌, refl, sym, ap, ◌∙◌, subst, eq-eqb, arith, if◌then◌else◌}
use borrow.Author.Tests.{eqb-true}
use Rattle.std.proofs.lemmas.Bool.Decides.{nat_tests}
use Rattle.dp_conf.proofs.TextLemmas.{either-false}
use Rattle.dp_conf.specs.Blanks.{before_kept as kept_before, is_blank, trim, trim_end, trim_start}
use Rattle.dp_pieces.specs.Bytes.{Bytes, Within, has_blank, has_blank_below}
use Rattle.dp_pieces.specs.Pieces.{AnyOf, Fits, Known, OneOf, PieceOf, any_bytes_of, pieces_set}
use Rattle.dp_pieces.specs.Trimmed.{before_kept, known_before, loose_front, starts_kept, without_end_blanks, trimmed_end, trimmed_start}
use Rattle.dp_pieces.proofs.FitsLemmas.{fits-any_bytes_of, fits-set}
use Rattle.dp_pieces.proofs.WithinLemmas.{within-trim_start}

-- a byte of a set without blanks is not a blank
none-below : (bound : ℕ) (set : Bytes) (byte : ℕ) → has_blank_below bound set ≡ false → byte < bound → set byte ≡ true → is_blank byte ≡ false
unfolding has_blank_below
none-below zero set byte none below here = absurd (omega (arith, below))
none-below (suc bound) set byte none below here =
    let both = either-false (is_blank bound && set bound) (has_blank_below bound set) none in
    by (byte == bound) refl both.0 (λ less. none-below bound set byte both.1 less here)
  where
    at : (b : Bool) → is_blank bound ≡ b → (b && set bound) ≡ false → set bound ≡ true → is_blank bound ≡ false
    at false is first has = is
    at true is first has = absurd cc

    by : (same : Bool) → (byte == bound) ≡ same → (is_blank bound && set bound) ≡ false → (byte < bound → is_blank byte ≡ false) → is_blank byte ≡ false
    by true is first later =
        let tied : byte ≡ bound = eqb-true byte bound is in
        ap is_blank tied ∙ at (is_blank bound) refl first (ap set (sym tied) ∙ here)
    by false is first later = later (grind (arith, nat_tests))

no-blank : (set : Bytes) (byte : ℕ) → has_blank set ≡ false → set byte ≡ true → is_blank byte ≡ false
no-blank set byte none here = by (nat_le byte 32) refl
  where
    by : (small : Bool) → nat_le byte 32 ≡ small → is_blank byte ≡ false
    by true is = none-below 33 set byte none (grind (arith, nat_tests)) here
    by false is = ap (λ b. b && not (byte == 10)) is

-- one more piece, known or not
plain : (byte : ℕ) (pieces : List PieceOf) (text : List ℕ) → Fits pieces text → Fits (Known byte ∷ pieces) (byte ∷ text)
unfolding Fits
plain byte pieces text fits = (text, refl, fits)

one-of : (set : Bytes) (byte : ℕ) (pieces : List PieceOf) (text : List ℕ) → set byte ≡ true → Fits pieces text → Fits (OneOf set ∷ pieces) (byte ∷ text)
unfolding Fits
one-of set byte pieces text here fits = ((byte, text), refl, here, fits)

any-of : (set : Bytes) (front : List ℕ) (pieces : List PieceOf) (text : List ℕ) → Within set front → Fits pieces text → Fits (AnyOf set ∷ pieces) (front ++ text)
unfolding Fits
any-of set front pieces text within fits = ((front, text), refl, within, fits)

-- no byte of a set without blanks is cut off
start-any : (set : Bytes) → has_blank set ≡ false → (front text : List ℕ) → Within set front → trim_start text ≡ text → trim_start (front ++ text) ≡ front ++ text
start-any set none [] text within kept = kept
start-any set none (byte ∷ front) text within kept = ap (λ b. if b then trim_start (front ++ text) else byte ∷ (front ++ text)) (no-blank set byte none within.0)

not-true : (a : Bool) → not a ≡ true → a ≡ false
not-true true e = absurd cc
not-true false e = refl

and-both : (a b : Bool) → (a && b) ≡ true → (a ≡ true) × (b ≡ true)
and-both true b is = (refl, is)
and-both false b is = absurd cc

-- a text that does not begin with a blank
kept-start : (pieces : List PieceOf) (text : List ℕ) → starts_kept pieces ≡ true → Fits pieces text → trim_start text ≡ text
unfolding Fits
kept-start [] text starts fits = subst (λ t. trim_start t ≡ t) (sym fits) refl
kept-start (Known byte ∷ pieces) text starts fits =
    subst (λ t. trim_start t ≡ t) (sym fits.1) (ap (λ b. if b then trim_start fits.0 else byte ∷ fits.0) (not-true (is_blank byte) starts))
kept-start (OneOf set ∷ pieces) text starts fits =
    subst (λ t. trim_start t ≡ t) (sym fits.1)
    (ap (λ b. if b then trim_start fits.0.1 else fits.0.0 ∷ fits.0.1) (no-blank set fits.0.0 (not-true (has_blank set) starts) fits.2))
kept-start (AnyOf set ∷ pieces) text starts fits =
    let both = and-both (not (has_blank set)) (starts_kept pieces) starts in
    subst (λ t. trim_start t ≡ t) (sym fits.1)
    (start-any set (not-true (has_blank set) both.0) fits.0.0 fits.0.1 fits.2 (kept-start pieces fits.0.1 both.1 fits.3))

-- some of the bytes of a set are cut off at the start, and no more if the rest does not begin with a blank
start-cut : (set : Bytes) (front text : List ℕ) (pieces : List PieceOf) → Within set front → trim_start text ≡ text → Fits pieces text
    → Fits (AnyOf set ∷ pieces) (trim_start (front ++ text))
start-cut set [] text pieces within kept fits = subst (Fits (AnyOf set ∷ pieces)) (sym kept) (any-of set [] pieces text tt fits)
start-cut set (byte ∷ front) text pieces within kept fits = by (is_blank byte) (start-cut set front text pieces within.1 kept fits)
  where
    by : (blank : Bool) → Fits (AnyOf set ∷ pieces) (trim_start (front ++ text)) → Fits (AnyOf set ∷ pieces) (if blank then trim_start (front ++ text) else byte ∷ (front ++ text))
    by true later = later
    by false later = any-of set (byte ∷ front) pieces text within fits

fits-loose_front : (set : Bytes) (pieces : List PieceOf) (text : List ℕ) → Fits (AnyOf set ∷ pieces) text → Fits (loose_front set pieces) (trim_start text)
unfolding Fits
fits-loose_front set pieces text fits = by (starts_kept pieces) refl
  where
    by : (kept : Bool) → starts_kept pieces ≡ kept → Fits (if kept then AnyOf set ∷ pieces else any_bytes_of (pieces_set (AnyOf set ∷ pieces))) (trim_start text)
    by true is =
        subst (λ t. Fits (AnyOf set ∷ pieces) (trim_start t)) (sym fits.1)
        (start-cut set fits.0.0 fits.0.1 pieces fits.2 (kept-start pieces fits.0.1 is fits.3) fits.3)
    by false is =
        fits-any_bytes_of (pieces_set (AnyOf set ∷ pieces)) (trim_start text)
        (within-trim_start (pieces_set (AnyOf set ∷ pieces)) text (fits-set (AnyOf set ∷ pieces) text fits))

-- one byte of a set is any number of bytes of it
loosely : (set : Bytes) (pieces : List PieceOf) (text : List ℕ) → Fits (OneOf set ∷ pieces) text → Fits (AnyOf set ∷ pieces) text
unfolding Fits
loosely set pieces text fits = ((fits.0.0 ∷ [], fits.0.1), fits.1, (fits.2, tt), fits.3)

-- without the blanks at the start
pub fits-trimmed_start : (pieces : List PieceOf) (text : List ℕ) → Fits pieces text → Fits (trimmed_start pieces) (trim_start text)
unfolding Fits
fits-trimmed_start [] text fits = subst (λ t. Fits [] (trim_start t)) (sym fits) refl
fits-trimmed_start (Known byte ∷ pieces) text fits =
    subst (λ t. Fits (trimmed_start (Known byte ∷ pieces)) (trim_start t)) (sym fits.1) (by (is_blank byte) (fits-trimmed_start pieces fits.0 fits.2))
  where
    by : (blank : Bool) → Fits (trimmed_start pieces) (trim_start fits.0)
        → Fits (if blank then trimmed_start pieces else Known byte ∷ pieces) (if blank then trim_start fits.0 else byte ∷ fits.0)
    by true later = later
    by false later = plain byte pieces fits.0 fits.2
fits-trimmed_start (OneOf set ∷ pieces) text fits = by (has_blank set) refl
  where
    by : (blank : Bool) → has_blank set ≡ blank → Fits (if blank then loose_front set pieces else OneOf set ∷ pieces) (trim_start text)
    by true is = fits-loose_front set pieces text (loosely set pieces text fits)
    by false is =
        subst (λ t. Fits (OneOf set ∷ pieces) (trim_start t)) (sym fits.1)
        (subst (λ b. Fits (OneOf set ∷ pieces) (if b then trim_start fits.0.1 else fits.0.0 ∷ fits.0.1)) (sym (no-blank set fits.0.0 is fits.2))
        (one-of set fits.0.0 pieces fits.0.1 fits.2 fits.3))
fits-trimmed_start (AnyOf set ∷ pieces) text fits = fits-loose_front set pieces text fits

-- a byte before the kept text stays, and a blank before nothing is left out
end-kept : (byte : ℕ) → is_blank byte ≡ false → (kept : List ℕ) → kept_before byte kept ≡ byte ∷ kept
end-kept byte none [] = ap (λ b. if b then [] else byte ∷ []) none
end-kept byte none (k ∷ kept) = refl

end-any : (set : Bytes) (byte : ℕ) → set byte ≡ true → (kept : List ℕ) (pieces : List PieceOf) → Fits pieces kept → Fits (AnyOf set ∷ pieces) (kept_before byte kept)
end-any set byte here [] pieces fits = by (is_blank byte)
  where
    by : (blank : Bool) → Fits (AnyOf set ∷ pieces) (if blank then [] else byte ∷ [])
    by true = any-of set [] pieces [] tt fits
    by false = any-of set (byte ∷ []) pieces [] (here, tt) fits
end-any set byte here (k ∷ kept) pieces fits = any-of set (byte ∷ []) pieces (k ∷ kept) (here, tt) fits

-- one more byte before any number of bytes of a set
fits_one_more : (set : Bytes) (byte : ℕ) → set byte ≡ true → (pieces : List PieceOf) (kept : List ℕ) → Fits (AnyOf set ∷ pieces) kept → Fits (AnyOf set ∷ pieces) (kept_before byte kept)
unfolding Fits
fits_one_more set byte here pieces [] fits = by (is_blank byte)
  where
    by : (blank : Bool) → Fits (AnyOf set ∷ pieces) (if blank then [] else byte ∷ [])
    by true = fits
    by false = ((byte ∷ fits.0.0, fits.0.1), ap (λ t. byte ∷ t) fits.1, (here, fits.2), fits.3)
fits_one_more set byte here pieces (k ∷ kept) fits = ((byte ∷ fits.0.0, fits.0.1), ap (λ t. byte ∷ t) fits.1, (here, fits.2), fits.3)

end-front : (set : Bytes) (front text : List ℕ) (pieces : List PieceOf) → Within set front → Fits pieces (trim_end text) → Fits (AnyOf set ∷ pieces) (trim_end (front ++ text))
end-front set [] text pieces within fits = any-of set [] pieces (trim_end text) tt fits
end-front set (byte ∷ front) text pieces within fits = again (end-front set front text pieces within.1 fits)
  where
    again : Fits (AnyOf set ∷ pieces) (trim_end (front ++ text)) → Fits (AnyOf set ∷ pieces) (kept_before byte (trim_end (front ++ text)))
    again later = fits_one_more set byte within.0 pieces (trim_end (front ++ text)) later

-- without the blanks at the end
only-byte : (byte : ℕ) → (byte == byte) ≡ true
only-byte byte = eq-eqb byte byte refl

end-known : (byte : ℕ) (pieces : List PieceOf) (kept : List ℕ) → Fits pieces kept → Fits (known_before byte pieces) (kept_before byte kept)
unfolding Fits
end-known byte [] kept fits = subst (λ t. Fits (known_before byte []) (kept_before byte t)) (sym fits) (by (is_blank byte))
  where
    by : (blank : Bool) → Fits (if blank then [] else Known byte ∷ []) (if blank then [] else byte ∷ [])
    by true = refl
    by false = ([], refl, refl)
end-known byte (piece ∷ pieces) kept fits = by (is_blank byte) refl
  where
    by : (blank : Bool) → is_blank byte ≡ blank → Fits (before_kept blank (λ b. b == byte) (Known byte) (piece ∷ pieces)) (kept_before byte kept)
    by true is = end-any (λ b. b == byte) byte (only-byte byte) kept (piece ∷ pieces) fits
    by false is = subst (Fits (Known byte ∷ piece ∷ pieces)) (sym (end-kept byte is kept)) (plain byte (piece ∷ pieces) kept fits)

pub fits-trimmed_end : (pieces : List PieceOf) (text : List ℕ) → Fits pieces text → Fits (trimmed_end pieces) (trim_end text)
unfolding Fits
fits-trimmed_end [] text fits = subst (λ t. Fits [] (trim_end t)) (sym fits) refl
fits-trimmed_end (Known byte ∷ pieces) text fits =
    subst (λ t. Fits (known_before byte (trimmed_end pieces)) (trim_end t)) (sym fits.1)
    (end-known byte (trimmed_end pieces) (trim_end fits.0) (fits-trimmed_end pieces fits.0 fits.2))
fits-trimmed_end (OneOf set ∷ pieces) text fits =
    subst (λ t. Fits (trimmed_end (OneOf set ∷ pieces)) (trim_end t)) (sym fits.1) (by (has_blank set) refl (fits-trimmed_end pieces fits.0.1 fits.3))
  where
    by : (blank : Bool) → has_blank set ≡ blank → Fits (trimmed_end pieces) (trim_end fits.0.1)
        → Fits (before_kept blank set (OneOf set) (trimmed_end pieces)) (kept_before fits.0.0 (trim_end fits.0.1))
    by true is later = end-any set fits.0.0 fits.2 (trim_end fits.0.1) (trimmed_end pieces) later
    by false is later =
        subst (Fits (OneOf set ∷ trimmed_end pieces)) (sym (end-kept fits.0.0 (no-blank set fits.0.0 is fits.2) (trim_end fits.0.1)))
        (one-of set fits.0.0 (trimmed_end pieces) (trim_end fits.0.1) fits.2 later)
fits-trimmed_end (AnyOf set ∷ pieces) text fits =
    subst (λ t. Fits (AnyOf set ∷ trimmed_end pieces) (trim_end t)) (sym fits.1)
    (end-front set fits.0.0 fits.0.1 (trimmed_end pieces) fits.2 (fits-trimmed_end pieces fits.0.1 fits.3))

-- without the blanks at both ends
pub fits-without_end_blanks : (pieces : List PieceOf) (text : List ℕ) → Fits pieces text → Fits (without_end_blanks pieces) (trim text)
fits-without_end_blanks pieces text fits = fits-trimmed_end (trimmed_start pieces) (trim_start text) (fits-trimmed_start pieces text fits)
