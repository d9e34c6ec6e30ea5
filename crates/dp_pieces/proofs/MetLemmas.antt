-- A text that fits a shape and matches a name fits both together.
use Rattle.std.proofs.Common.{◌≡◌, ℕ, zero, suc, ◌<◌, Bool, true, false, not, ◌&&◌, ◌||◌, ◌==◌, if◌then◌else◌, List, [], ◌∷◌, ◌++◌, length, refl, sym, ap, ◌∙◌, subst, eq-eqb, arith}
use borrow.Author.Tests.{eqb-true}
use Rattle.std.specs.Prelude.{Contains, slice_index_or}
use Rattle.std.specs.List.{AllZip}
use Rattle.dp_pattern.specs.Dashes.{is_dash, without_dashes}
use Rattle.dp_pattern.specs.Matches.{FitsTail, Matches}
use Rattle.dp_pattern.specs.Name.{Meaning, Plain, Pattern}
use Rattle.dp_pattern.specs.declared.tail.Tail.{Tail}
use Rattle.dp_pattern.specs.declared.tail.Tail.TheVariants.{End, Dot, Bang}
use Rattle.dp_pieces.specs.Bytes.{Bytes, IsPart, Within, both}
use Rattle.dp_pieces.specs.Met.{after_match, after_meeting, met_classes, met_tail}
use Rattle.dp_pieces.specs.Pieces.{AnyOf, Fits, Known, OneOf, PieceOf, bytes_in, exactly, any_bytes_of, piece_set, pieces_set}
use Rattle.dp_pieces.proofs.FitsLemmas.{first-part, fits-exactly, fits-any_bytes_of, fits-set, later-part, any_bytes_of-part}
use Rattle.dp_pieces.proofs.WithinLemmas.{either-left, either-right}

-- a byte at a place of a class is one of its bytes
at-place : (class : List ℕ) (k byte : ℕ) → k < length class → slice_index_or class k byte ≡ byte → bytes_in class byte ≡ true
at-place [] k byte below is = absurd (omega (arith, below))
at-place (c ∷ class) zero byte below is = either-left (c == byte) (bytes_in class byte) (eq-eqb c byte is)
at-place (c ∷ class) (suc k) byte below is = either-right (c == byte) (bytes_in class byte) (at-place class k byte (omega (arith, below)) is)

in-both : (a b : Bytes) (byte : ℕ) → a byte ≡ true → b byte ≡ true → both a b byte ≡ true
in-both a b byte x y = ap (λ t. t && b byte) x ∙ y

-- after the classes
fits-tail : (pieces : List PieceOf) (tail : Tail) (text rest : List ℕ) → text ≡ rest → FitsTail tail rest → Fits pieces text → Fits (met_tail pieces tail) text
unfolding Fits
fits-tail pieces End text rest is ending fits = is ∙ ending
fits-tail pieces Dot text rest is ending fits = fits
fits-tail pieces Bang text rest is ending fits = fits

-- the first byte and the rest of two equal texts
heads : (a b : ℕ) (x y : List ℕ) → a ∷ x ≡ b ∷ y → (a ≡ b) × (x ≡ y)
heads a b x y is = (cc, cc)

fits-classes : (pieces : List PieceOf) (classes : List (List ℕ)) (tail : Tail) (text begin rest : List ℕ) → text ≡ begin ++ rest → AllZip Contains classes begin → FitsTail tail rest
    → Fits pieces text → Fits (met_classes pieces classes tail) text
unfolding Fits
fits-classes pieces [] tail text [] rest whole zip ending fits = fits-tail pieces tail text rest whole ending fits
fits-classes pieces [] tail text (byte ∷ begin) rest whole zip ending fits = absurd zip
fits-classes pieces (class ∷ classes) tail text [] rest whole zip ending fits = absurd zip
fits-classes [] (class ∷ classes) tail text (byte ∷ begin) rest whole zip ending fits = fits
fits-classes (Known known ∷ pieces) (class ∷ classes) tail text (byte ∷ begin) rest whole zip ending fits =
    let same = heads known byte fits.0 (begin ++ rest) (sym fits.1 ∙ whole) in
    (fits.0, fits.1, fits-classes pieces classes tail fits.0 begin rest same.1 zip.1 ending fits.2)
fits-classes (OneOf set ∷ pieces) (class ∷ classes) tail text (byte ∷ begin) rest whole zip ending fits =
    let same = heads fits.0.0 byte fits.0.1 (begin ++ rest) (sym fits.1 ∙ whole) in (
      fits.0,
      fits.1,
      in-both set (bytes_in class) fits.0.0 fits.2 (ap (bytes_in class) same.0 ∙ at-place class zip.0.0 byte zip.0.1 zip.0.2),
      fits-classes pieces classes tail fits.0.1 begin rest same.1 zip.1 ending fits.3,
    )
fits-classes (AnyOf set ∷ pieces) (class ∷ classes) tail text (byte ∷ begin) rest whole zip ending fits =
    let within : Within (pieces_set (AnyOf set ∷ pieces)) (byte ∷ (begin ++ rest)) =
    subst (Within (pieces_set (AnyOf set ∷ pieces))) whole (fits-set (AnyOf set ∷ pieces) text fits) in (
      (byte, begin ++ rest),
      whole,
      in-both (pieces_set (AnyOf set ∷ pieces)) (bytes_in class) byte within.0 (at-place class zip.0.0 byte zip.0.1 zip.0.2),
      fits-classes (any_bytes_of (pieces_set (AnyOf set ∷ pieces))) classes tail (begin ++ rest) begin rest refl zip.1 ending
          (fits-any_bytes_of (pieces_set (AnyOf set ∷ pieces)) (begin ++ rest) within.1),
    )

fits-after_meeting : (pieces : List PieceOf) (name : Meaning) (text : List ℕ) → without_dashes text ≡ text → Fits pieces text → Matches name text → Fits (after_meeting pieces name) text
unfolding Matches
fits-after_meeting pieces (Plain plain) text clean fits matching = subst (Fits (exactly plain)) (sym matching ∙ clean) (fits-exactly plain)
fits-after_meeting pieces (Pattern classes tail) text clean fits matching =
    fits-classes pieces classes tail text matching.begin matching.rest (sym clean ∙ matching.whole) matching.members matching.ending fits

-- a text with bytes of a set without the dash contains no dash
pub no-dashes : (set : Bytes) (text : List ℕ) → set 45 ≡ false → Within set text → without_dashes text ≡ text
no-dashes set [] lacks within = refl
no-dashes set (byte ∷ text) lacks within = by (is_dash byte) refl (no-dashes set text lacks within.1)
  where
    by : (dash : Bool) → is_dash byte ≡ dash → without_dashes text ≡ text → (if not dash then byte ∷ without_dashes text else without_dashes text) ≡ byte ∷ text
    by true is rest = let same : byte ≡ 45 = eqb-true byte 45 is in absurd (let no : false ≡ true = sym lacks ∙ (ap set (sym same) ∙ within.0) in let b : ⊥ = cc in b)
    by false is rest = ap (λ t. byte ∷ t) rest

-- an extension that matches a name
pub fits-after_match : (pieces : List PieceOf) (name : Meaning) (text : List ℕ) → Fits pieces text → Matches name text → Fits (after_match pieces name) text
fits-after_match pieces name text fits matching = by (pieces_set pieces 45) refl
  where
    by : (dashed : Bool) → pieces_set pieces 45 ≡ dashed → Fits (if dashed then pieces else after_meeting pieces name) text
    by true is = fits
    by false is = fits-after_meeting pieces name text (no-dashes (pieces_set pieces) text is (fits-set pieces text fits)) fits matching

-- the bytes of the pieces after the first, and those of the first
part-cons : (a b : PieceOf) (xs ys : List PieceOf) → IsPart (piece_set a) (pieces_set (b ∷ ys)) → IsPart (pieces_set xs) (pieces_set (b ∷ ys)) → IsPart (pieces_set (a ∷ xs)) (pieces_set (b ∷ ys))
unfolding pieces_set
part-cons a b xs ys first rest byte is = by (piece_set a byte) refl is
  where
    by : (has : Bool) → piece_set a byte ≡ has → (has || pieces_set xs byte) ≡ true → pieces_set (b ∷ ys) byte ≡ true
    by true here same = first byte here
    by false none same = rest byte same

both-left : (a b : Bytes) → IsPart (both a b) a
both-left a b byte is = by (a byte) is
  where
    by : (has : Bool) → (has && b byte) ≡ true → has ≡ true
    by true same = refl
    by false same = same

trans-part : (a b c : Bytes) → IsPart a b → IsPart b c → IsPart a c
trans-part a b c first second byte is = second byte (first byte is)

nothing-part : (set : Bytes) → IsPart (pieces_set []) set
unfolding pieces_set
nothing-part set byte is = absurd cc

tail-part : (pieces : List PieceOf) (tail : Tail) → IsPart (pieces_set (met_tail pieces tail)) (pieces_set pieces)
tail-part pieces End = nothing-part (pieces_set pieces)
tail-part pieces Dot = λ byte is. is
tail-part pieces Bang = λ byte is. is

-- what is met with classes has no other bytes
classes-part : (pieces : List PieceOf) (classes : List (List ℕ)) (tail : Tail) → IsPart (pieces_set (met_classes pieces classes tail)) (pieces_set pieces)
classes-part pieces [] tail = tail-part pieces tail
classes-part [] (class ∷ classes) tail = λ byte is. is
classes-part (Known known ∷ pieces) (class ∷ classes) tail =
    part-cons (Known known) (Known known) _ pieces (first-part (Known known) pieces)
    (trans-part _ (pieces_set pieces) _ (classes-part pieces classes tail) (later-part (Known known) pieces))
classes-part (OneOf set ∷ pieces) (class ∷ classes) tail =
    part-cons (OneOf (both set (bytes_in class))) (OneOf set) _ pieces
    (trans-part _ set _ (both-left set (bytes_in class)) (first-part (OneOf set) pieces))
    (trans-part _ (pieces_set pieces) _ (classes-part pieces classes tail) (later-part (OneOf set) pieces))
classes-part (AnyOf set ∷ pieces) (class ∷ classes) tail =
    part-cons (OneOf (both (pieces_set (AnyOf set ∷ pieces)) (bytes_in class))) (AnyOf set) _ pieces
    (both-left (pieces_set (AnyOf set ∷ pieces)) (bytes_in class))
    (trans-part _ (pieces_set (any_bytes_of (pieces_set (AnyOf set ∷ pieces)))) _ (classes-part (any_bytes_of (pieces_set (AnyOf set ∷ pieces))) classes tail)
    (any_bytes_of-part (pieces_set (AnyOf set ∷ pieces))))

-- the pieces of a known text have its bytes
exactly-part : (set : Bytes) (text : List ℕ) → Within set text → IsPart (pieces_set (exactly text)) set
unfolding pieces_set
exactly-part set [] within byte is = absurd cc
exactly-part set (b ∷ text) within byte is = by (byte == b) refl (exactly-part set text within.1 byte) is
  where
    by : (same : Bool) → (byte == b) ≡ same → (pieces_set (exactly text) byte ≡ true → set byte ≡ true) → (same || pieces_set (exactly text) byte) ≡ true → set byte ≡ true
    by true same rest has = ap set (eqb-true byte b same) ∙ within.0
    by false other rest has = rest has

-- and what is met with a matching name has no other bytes
pub part-after_match : (pieces : List PieceOf) (name : Meaning) (text : List ℕ) → Fits pieces text → Matches name text → IsPart (pieces_set (after_match pieces name)) (pieces_set pieces)
unfolding Matches
part-after_match pieces name text fits matching = by (pieces_set pieces 45) refl name matching
  where
    by : (dashed : Bool) → pieces_set pieces 45 ≡ dashed → (name : Meaning) → Matches name text → IsPart (pieces_set (if dashed then pieces else after_meeting pieces name)) (pieces_set pieces)
    by true is name matching = λ byte has. has
    by false is (Plain plain) matching =
        exactly-part (pieces_set pieces) plain
        (subst (Within (pieces_set pieces)) (sym (no-dashes (pieces_set pieces) text is (fits-set pieces text fits)) ∙ matching) (fits-set pieces text fits))
    by false is (Pattern classes tail) matching = classes-part pieces classes tail
