-- Texts that fit pieces, and their parts.
use Rattle.std.proofs.Common.{◌≡◌, ℕ, zero, suc, ◌+◌, ◌-◌, Bool, true, false, ◌||◌, List, [], ◌∷◌, ◌++◌, length, take, drop, min, Option, Some, None, refl, sym, ap, ◌∙◌, subst, eq-eqb, append_assoc, arith}
use Rattle.std.proofs.lemmas.List.{append-nil, length-drop, take_min, take_rest}
use Rattle.std.specs.Option.{option_map}
use Rattle.dp_vars.specs.Parts.{part}
use Rattle.dp_vars.specs.declared.part.Reach.TheVariants.{Ahead, Back}
use Rattle.dp_vars.specs.declared.part.Selection.{Selection}
use Rattle.dp_vars.specs.declared.part.Selection.TheVariants.{Whole, Part, Nothing}
use Rattle.dp_pieces.specs.Bytes.{Bytes, IsPart, Within}
use Rattle.dp_pieces.specs.Names.{part_pieces}
use Rattle.dp_pieces.specs.Pieces.{AnyOf, Fits, Known, OneOf, PieceOf, exactly, front, text_known, any_bytes_of, piece_set, pieces_set, without}
use Rattle.dp_pieces.proofs.WithinLemmas.{either-left, either-right, within-append, within-drop, within-more, within-part, within-take}

-- nothing
pub fits-nothing : Fits [] []
unfolding Fits
fits-nothing = refl

-- a text with these bytes
pub fits-any_bytes_of : (set : Bytes) (text : List ℕ) → Within set text → Fits (any_bytes_of set) text
unfolding Fits
fits-any_bytes_of set text is = ((text, []), sym (append-nil text), is, refl)

-- a known text
pub fits-exactly : (text : List ℕ) → Fits (exactly text) text
unfolding Fits
fits-exactly [] = refl
fits-exactly (byte ∷ text) = (text, refl, fits-exactly text)

-- one text after another
pub fits-append : (pieces more : List PieceOf) (text rest : List ℕ) → Fits pieces text → Fits more rest → Fits (pieces ++ more) (text ++ rest)
unfolding Fits
fits-append [] more text rest fits later = subst (λ t. Fits more (t ++ rest)) (sym fits) later
fits-append (Known byte ∷ pieces) more text rest fits later = (fits.0 ++ rest, ap (λ t. t ++ rest) fits.1, fits-append pieces more fits.0 rest fits.2 later)
fits-append (OneOf set ∷ pieces) more text rest fits later =
    ((fits.0.0, fits.0.1 ++ rest), ap (λ t. t ++ rest) fits.1, fits.2, fits-append pieces more fits.0.1 rest fits.3 later)
fits-append (AnyOf set ∷ pieces) more text rest fits later =
    ((fits.0.0, fits.0.1 ++ rest), ap (λ t. t ++ rest) fits.1 ∙ append_assoc fits.0.0 fits.0.1 rest, fits.2, fits-append pieces more fits.0.1 rest fits.3 later)

-- pieces that are all known
pub fits-text_known : (pieces : List PieceOf) (text bytes : List ℕ) → text_known pieces ≡ Some bytes → Fits pieces text → text ≡ bytes
unfolding Fits
fits-text_known [] text bytes is fits = fits ∙ (cc)
fits-text_known (Known byte ∷ pieces) text bytes is fits = by (text_known pieces) refl (λ bs from. fits-text_known pieces fits.0 bs from fits.2) is
  where
    by : (o : Option (List ℕ)) → text_known pieces ≡ o → ((bs : List ℕ) → text_known pieces ≡ Some bs → fits.0 ≡ bs)
        → option_map (λ bytes. byte ∷ bytes) o ≡ Some bytes → text ≡ bytes
    by None from later same = absurd cc
    by (Some bs) from later same = fits.1 ∙ (ap (λ xs. byte ∷ xs) (later bs from) ∙ (cc))
fits-text_known (OneOf set ∷ pieces) text bytes is fits = absurd cc
fits-text_known (AnyOf set ∷ pieces) text bytes is fits = absurd cc

-- the bytes after the first piece are among those of all pieces
pub later-part : (piece : PieceOf) (pieces : List PieceOf) → IsPart (pieces_set pieces) (pieces_set (piece ∷ pieces))
unfolding pieces_set
later-part piece pieces byte is = either-right (piece_set piece byte) (pieces_set pieces byte) is

pub first-part : (piece : PieceOf) (pieces : List PieceOf) → IsPart (piece_set piece) (pieces_set (piece ∷ pieces))
unfolding pieces_set
first-part piece pieces byte is = either-left (piece_set piece byte) (pieces_set pieces byte) is

-- only bytes of the set
pub any_bytes_of-part : (set : Bytes) → IsPart (pieces_set (any_bytes_of set)) set
unfolding pieces_set
any_bytes_of-part set byte is = by (set byte) is
  where
    by : (has : Bool) → (has || false) ≡ true → has ≡ true
    by true e = refl
    by false e = e

-- the bytes of a text that fits
pub fits-set : (pieces : List PieceOf) (text : List ℕ) → Fits pieces text → Within (pieces_set pieces) text
unfolding Fits
fits-set [] text fits = subst (Within (pieces_set [])) (sym fits) tt
fits-set (Known byte ∷ pieces) text fits =
    subst (Within (pieces_set (Known byte ∷ pieces))) (sym fits.1) (
      first-part (Known byte) pieces byte (eq-eqb byte byte refl),
      within-more (pieces_set pieces) (pieces_set (Known byte ∷ pieces)) (later-part (Known byte) pieces) fits.0 (fits-set pieces fits.0 fits.2),
    )
fits-set (OneOf set ∷ pieces) text fits =
    subst (Within (pieces_set (OneOf set ∷ pieces))) (sym fits.1) (
      first-part (OneOf set) pieces fits.0.0 fits.2,
      within-more (pieces_set pieces) (pieces_set (OneOf set ∷ pieces)) (later-part (OneOf set) pieces) fits.0.1 (fits-set pieces fits.0.1 fits.3),
    )
fits-set (AnyOf set ∷ pieces) text fits =
    subst (Within (pieces_set (AnyOf set ∷ pieces))) (sym fits.1)
    (within-append (pieces_set (AnyOf set ∷ pieces)) fits.0.0 fits.0.1
    (within-more set (pieces_set (AnyOf set ∷ pieces)) (first-part (AnyOf set) pieces) fits.0.0 fits.2)
    (within-more (pieces_set pieces) (pieces_set (AnyOf set ∷ pieces)) (later-part (AnyOf set) pieces) fits.0.1 (fits-set pieces fits.0.1 fits.3)))

-- a text fits any number of bytes of its pieces
pub fits-loosely : (pieces : List PieceOf) (text : List ℕ) → Fits pieces text → Fits (any_bytes_of (pieces_set pieces)) text
fits-loosely pieces text fits = fits-any_bytes_of (pieces_set pieces) text (fits-set pieces text fits)

-- a text without its first bytes
pub fits-without : (count : ℕ) (pieces : List PieceOf) (text : List ℕ) → Fits pieces text → Fits (without count pieces) (drop count text)
unfolding Fits
fits-without zero pieces text fits = fits
fits-without (suc count) [] text fits = subst (λ t. Fits [] (drop (suc count) t)) (sym fits) refl
fits-without (suc count) (Known byte ∷ pieces) text fits =
    subst (λ t. Fits (without count pieces) (drop (suc count) t)) (sym fits.1) (fits-without count pieces fits.0 fits.2)
fits-without (suc count) (OneOf set ∷ pieces) text fits =
    subst (λ t. Fits (without count pieces) (drop (suc count) t)) (sym fits.1) (fits-without count pieces fits.0.1 fits.3)
fits-without (suc count) (AnyOf set ∷ pieces) text fits =
    fits-any_bytes_of (pieces_set (AnyOf set ∷ pieces)) (drop (suc count) text)
    (within-drop (pieces_set (AnyOf set ∷ pieces)) (suc count) text (fits-set (AnyOf set ∷ pieces) text fits))

-- the first bytes of a text
pub fits-front : (count : ℕ) (pieces : List PieceOf) (text : List ℕ) → Fits pieces text → Fits (front count pieces) (take count text)
unfolding Fits
fits-front zero pieces text fits = refl
fits-front (suc count) [] text fits = subst (λ t. Fits [] (take (suc count) t)) (sym fits) refl
fits-front (suc count) (Known byte ∷ pieces) text fits =
    subst (λ t. Fits (Known byte ∷ front count pieces) (take (suc count) t)) (sym fits.1) (take count fits.0, refl, fits-front count pieces fits.0 fits.2)
fits-front (suc count) (OneOf set ∷ pieces) text fits =
    subst (λ t. Fits (OneOf set ∷ front count pieces) (take (suc count) t)) (sym fits.1)
    ((fits.0.0, take count fits.0.1), refl, fits.2, fits-front count pieces fits.0.1 fits.3)
fits-front (suc count) (AnyOf set ∷ pieces) text fits =
    fits-any_bytes_of (pieces_set (AnyOf set ∷ pieces)) (take (suc count) text)
    (within-take (pieces_set (AnyOf set ∷ pieces)) (suc count) text (fits-set (AnyOf set ∷ pieces) text fits))

-- a part that counts from the front, as dropped and taken bytes
drop-min : (count : ℕ) (text : List ℕ) → drop (min count (length text)) text ≡ drop count text
drop-min zero text = let none : min 0 (length text) ≡ 0 = omega arith in ap (λ n. drop n text) none
drop-min (suc count) [] = let none : min (suc count) 0 ≡ 0 = omega arith in ap (λ n. drop n []) none
drop-min (suc count) (byte ∷ text) =
    let less : min (suc count) (suc (length text)) ≡ suc (min count (length text)) = omega arith in
    ap (λ n. drop n (byte ∷ text)) less ∙ drop-min count text

part-rest : (count : ℕ) (text : List ℕ) → part (Part (Ahead count) None) text ≡ drop count text
part-rest count text = take_rest text (min count (length text)) ∙ drop-min count text

part-some : (count size : ℕ) (text : List ℕ) → part (Part (Ahead count) (Some (Ahead size))) text ≡ take size (drop count text)
part-some count size text =
    let fewer : min (length text) (min count (length text) + size) - min count (length text) ≡ min size (length text - min count (length text)) = omega arith in
    ap (λ n. take n (drop (min count (length text)) text))
    (fewer ∙ ap (min size) (sym (length-drop (min count (length text)) text)))
    ∙ (take_min size (drop (min count (length text)) text) ∙ ap (take size) (drop-min count text))

-- the requested part of a text
pub fits-part : (asked : Selection) (pieces : List PieceOf) (text : List ℕ) → Fits pieces text → Fits (part_pieces asked pieces) (part asked text)
fits-part Whole pieces text fits = fits
fits-part (Part (Ahead offset) None) pieces text fits = subst (Fits (without offset pieces)) (sym (part-rest offset text)) (fits-without offset pieces text fits)
fits-part (Part (Ahead offset) (Some (Ahead size))) pieces text fits =
    subst (Fits (front size (without offset pieces))) (sym (part-some offset size text))
    (fits-front size (without offset pieces) (drop offset text) (fits-without offset pieces text fits))
fits-part (Part (Ahead offset) (Some (Back size))) pieces text fits = fits-any_bytes_of (pieces_set pieces) _ (within-part (pieces_set pieces) (Part (Ahead offset) (Some (Back size))) text (fits-set pieces text fits))
fits-part (Part (Back offset) size) pieces text fits = fits-any_bytes_of (pieces_set pieces) _ (within-part (pieces_set pieces) (Part (Back offset) size) text (fits-set pieces text fits))
fits-part Nothing pieces text fits = fits-nothing
