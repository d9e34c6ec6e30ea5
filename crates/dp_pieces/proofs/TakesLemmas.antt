-- Which texts of a shape the classes and the tail of a name take.
use Rattle.std.proofs.Common.{◌≡◌, ℕ, ◌<◌, ◌≤◌, Bool, true, false, not, ◌||◌, ◌==◌, if◌then◌else◌, List, [], ◌∷◌, ◌++◌, length, Contains, eqb-true, eq-eqb, length-append, refl, sym, ap, ◌∙◌, subst, arith}
use Rattle.std.specs.List.{AllZip}
use Rattle.dp_pattern.proofs.WalkLemmas.{member}
use Rattle.dp_pattern.specs.Dashes.{is_dash, without_dashes}
use Rattle.dp_pattern.specs.Matches.{FitsTail, Matches, MatchesPattern}
use Rattle.dp_pattern.specs.Name.{Meaning, Plain, Pattern, is_one_of}
use Rattle.dp_pattern.specs.Walk.{classes_of, singles, tail_of}
use Rattle.dp_pattern.specs.declared.tail.Tail.{Tail}
use Rattle.dp_pattern.specs.declared.tail.Tail.TheVariants.{End}
use Rattle.dp_pieces.specs.Bytes.{Bytes, IsPart, Within, none}
use Rattle.dp_pieces.specs.Pieces.{AnyOf, Fits, Known, OneOf, PieceOf, bytes_in, piece_set, pieces_set}
use Rattle.dp_pieces.specs.Shown.{shown_all}
use Rattle.dp_pieces.specs.declared.piece.Piece.{Piece as Kept}
use Rattle.dp_pieces.specs.ShapeSteps.{AlwaysTakes, AlwaysTakesWithin, Lacks, Misses, MissesWithin, Takes, is_any, least_of}
use Rattle.dp_pieces.proofs.FitsLemmas.{fits-set}
use Rattle.dp_pieces.proofs.MetLemmas.{no-dashes}

-- ---- a name takes a text without its dashes if they match

flip : (a b : ℕ) → (a == b) ≡ (b == a)
flip a b = by (a == b) refl (b == a) refl
  where
    by : (s : Bool) → (a == b) ≡ s → (t : Bool) → (b == a) ≡ t → s ≡ t
    by true x true y = refl
    by true x false y = sym (eq-eqb b a (sym (eqb-true a b x))) ∙ y
    by false x true y = sym x ∙ eq-eqb a b (sym (eqb-true b a y))
    by false x false y = refl

pub bytes_in_is_one_of : (class : List ℕ) (byte : ℕ) → bytes_in class byte ≡ is_one_of class byte
bytes_in_is_one_of [] byte = refl
bytes_in_is_one_of (c ∷ class) byte = λ i. flip c byte i || bytes_in_is_one_of class byte i

takes-begin : (classes : List (List ℕ)) (tail : Tail) (begin rest : List ℕ) → AllZip Contains classes begin → FitsTail tail rest → Takes classes tail (begin ++ rest)
takes-begin [] tail [] rest members ending = ending
takes-begin [] tail (d ∷ begin) rest members ending = absurd members
takes-begin (class ∷ classes) tail [] rest members ending = absurd members
takes-begin (class ∷ classes) tail (d ∷ begin) rest members ending =
    (bytes_in_is_one_of class d ∙ (member class d).1 members.0, takes-begin classes tail begin rest members.1 ending)

takes-singles : (plain : List ℕ) → Takes (singles plain) End plain
takes-singles [] = refl
takes-singles (b ∷ plain) = (ap (λ t. t || false) (eq-eqb b b refl), takes-singles plain)

takes-name : (name : Meaning) (text : List ℕ) → Matches name text → Takes (classes_of name) (tail_of name) (without_dashes text)
unfolding Matches
takes-name (Plain plain) text matching = subst (Takes (singles plain) End) (sym matching) (takes-singles plain)
takes-name (Pattern classes tail) text matching =
    subst (Takes classes tail) (sym matching.whole) (takes-begin classes tail matching.begin matching.rest matching.members matching.ending)

takes-pattern : (classes : List (List ℕ)) (tail : Tail) (digits : List ℕ) → Takes classes tail digits → MatchesPattern classes tail digits
takes-pattern [] tail digits takes = record { begin = []; rest = digits; whole = refl; members = tt; ending = takes }
takes-pattern (class ∷ classes) tail [] takes = absurd takes
takes-pattern (class ∷ classes) tail (d ∷ digits) takes =
    let more = takes-pattern classes tail digits takes.1 in record {
      begin = d ∷ more.begin;
      rest = more.rest;
      whole = ap (λ ds. d ∷ ds) more.whole;
      members = ((member class d).0 (sym (bytes_in_is_one_of class d) ∙ takes.0), more.members);
      ending = more.ending;
    }

singles-take : (plain digits : List ℕ) → Takes (singles plain) End digits → digits ≡ plain
singles-take [] digits takes = takes
singles-take (b ∷ plain) [] takes = absurd takes
singles-take (b ∷ plain) (d ∷ digits) takes = by (b == d) refl takes.0 (singles-take plain digits takes.1)
  where
    by : (same : Bool) → (b == d) ≡ same → (same || false) ≡ true → digits ≡ plain → d ∷ digits ≡ b ∷ plain
    by true is has rest = λ i. sym (eqb-true b d is) i ∷ rest i
    by false is has rest = absurd cc

name-takes : (name : Meaning) (text : List ℕ) → Takes (classes_of name) (tail_of name) (without_dashes text) → Matches name text
unfolding Matches
name-takes (Plain plain) text takes = singles-take plain (without_dashes text) takes
name-takes (Pattern classes tail) text takes = takes-pattern classes tail (without_dashes text) takes

-- leaving out dashes adds no bytes
within-without_dashes : (set : Bytes) (text : List ℕ) → Within set text → Within set (without_dashes text)
within-without_dashes set [] within = tt
within-without_dashes set (byte ∷ text) within = by (is_dash byte) (within-without_dashes set text within.1)
  where
    by : (dash : Bool) → Within set (without_dashes text) → Within set (if not dash then byte ∷ without_dashes text else without_dashes text)
    by true rest = rest
    by false rest = (within.0, rest)

-- ---- the first piece of a shape, and the lengths of its texts

one-byte : (piece : PieceOf) (pieces : List PieceOf) (text : List ℕ) → is_any piece ≡ false → Fits (piece ∷ pieces) text
    → (cut : ℕ × List ℕ) × (text ≡ cut.0 ∷ cut.1) × (piece_set piece cut.0 ≡ true) × Fits pieces cut.1
unfolding Fits
one-byte (Known byte) pieces text one fits = ((byte, fits.0), fits.1, eq-eqb byte byte refl, fits.2)
one-byte (OneOf set) pieces text one fits = fits
one-byte (AnyOf set) pieces text one fits = absurd cc

least-fits : (pieces : List PieceOf) (text : List ℕ) → Fits pieces text → least_of pieces ≤ length text
unfolding Fits
least-fits [] text fits = omega arith
least-fits (Known byte ∷ pieces) text fits = omega (arith, least-fits pieces fits.0 fits.2, ap length fits.1)
least-fits (OneOf set ∷ pieces) text fits = omega (arith, least-fits pieces fits.0.1 fits.3, ap length fits.1)
least-fits (AnyOf set ∷ pieces) text fits = omega (arith, least-fits pieces fits.0.1 fits.3, ap length fits.1, length-append fits.0.0 fits.0.1)

-- ---- no text is taken

module _ (left later : List PieceOf) (piece : PieceOf) (classes after : List (List ℕ)) (class : List ℕ) (tail next : Tail) (begins : classes ≡ class ∷ after) where
  taken : (digits : List ℕ) (cut : ℕ × List ℕ) → digits ≡ cut.0 ∷ cut.1 → Takes classes tail digits → Takes (class ∷ after) tail (cut.0 ∷ cut.1)
  taken digits cut is takes = subst (Takes (class ∷ after) tail) is (subst (λ cs. Takes cs tail digits) begins takes)

  -- a byte is taken by its class, and the rest is not taken
  pub misses-step : left ≡ piece ∷ later → next ≡ tail → is_any piece ≡ false → Misses later after next → Misses left classes tail
  misses-step is same one misses digits fits takes =
      let cut = one-byte piece later digits one (subst (λ ps. Fits ps digits) is fits) in
      misses cut.0.1 cut.3 (subst (λ t. Takes after t cut.0.1) (sym same) (taken digits cut.0 cut.1 takes).1)

  -- no byte of the piece is
  pub misses-lacks : left ≡ piece ∷ later → is_any piece ≡ false → Lacks (piece_set piece) class → Misses left classes tail
  misses-lacks is one lacks digits fits takes =
      let cut = one-byte piece later digits one (subst (λ ps. Fits ps digits) is fits) in
      lacks cut.0.0 cut.2 (taken digits cut.0 cut.1 takes).0

-- the text ends before the classes do
pub misses-short : (left : List Kept) (classes after : List (List ℕ)) (class : List ℕ) (tail : Tail) → classes ≡ class ∷ after → length left ≡ 0 → Misses (shown_all left) classes tail
unfolding Fits
misses-short [] classes after class tail begins empty digits fits takes = subst (Takes (class ∷ after) tail) fits (subst (λ cs. Takes cs tail digits) begins takes)
misses-short (piece ∷ left) classes after class tail begins empty digits fits takes = absurd (omega (arith, empty))

-- a text that fits pieces has their bytes, and is not shorter than they are
pub misses-within : (left : List PieceOf) (set : Bytes) (least : ℕ) (classes : List (List ℕ)) (tail : Tail) → ((byte : ℕ) → set byte ≡ pieces_set left byte) → least ≡ least_of left
    → MissesWithin set least classes tail → Misses left classes tail
misses-within left set least classes tail same long misses digits fits takes =
    misses digits (subst (λ s. Within s digits) (λ i byte. sym (same byte) i) (fits-set left digits fits)) (omega (arith, least-fits left digits fits, long)) takes

-- no class is left
pub misses-end : (set : Bytes) (least : ℕ) (classes : List (List ℕ)) (tail found : Tail) → classes ≡ [] → found ≡ tail
    → ((digits : List ℕ) → Within set digits → least ≤ length digits → FitsTail found digits → ⊥) → MissesWithin set least classes tail
misses-end set least classes tail found is same misses digits within long takes =
    misses digits within long (subst (λ t. FitsTail t digits) (sym same) (subst (λ cs. Takes cs tail digits) is takes))

-- the only text of an empty set is the empty text
pub none-follow : (set : Bytes) (digits : List ℕ) → IsPart set none → Within set digits → 0 < length digits → ⊥
none-follow set [] empty within long = omega (arith, long)
none-follow set (d ∷ digits) empty within long = let no : false ≡ true = empty d within.0 in absurd cc

-- ---- each text is taken

pub always-step : (left later : List PieceOf) (piece : PieceOf) (classes after : List (List ℕ)) (class : List ℕ) (tail next : Tail) → left ≡ piece ∷ later → classes ≡ class ∷ after → next ≡ tail
    → is_any piece ≡ false → IsPart (piece_set piece) (bytes_in class) → AlwaysTakes later after next → AlwaysTakes left classes tail
always-step left later piece classes after class tail next is begins same one part always digits fits =
    let cut = one-byte piece later digits one (subst (λ ps. Fits ps digits) is fits) in
    let rest : Takes after tail cut.0.1 = subst (λ t. Takes after t cut.0.1) same (always cut.0.1 cut.3) in
    subst (λ cs. Takes cs tail digits) (sym begins) (subst (Takes (class ∷ after) tail) (sym cut.1) (part cut.0.0 cut.2, rest))

pub always-within : (left : List PieceOf) (set : Bytes) (least : ℕ) (classes : List (List ℕ)) (tail : Tail) → ((byte : ℕ) → set byte ≡ pieces_set left byte) → least ≡ least_of left
    → AlwaysTakesWithin set least classes tail → AlwaysTakes left classes tail
always-within left set least classes tail same long always digits fits =
    always digits (subst (λ s. Within s digits) (λ i byte. sym (same byte) i) (fits-set left digits fits)) (omega (arith, least-fits left digits fits, long))

pub always-end : (set : Bytes) (least : ℕ) (classes : List (List ℕ)) (tail found : Tail) → classes ≡ [] → found ≡ tail
    → ((digits : List ℕ) → Within set digits → least ≤ length digits → FitsTail found digits) → AlwaysTakesWithin set least classes tail
always-end set least classes tail found is same always digits within long =
    subst (λ cs. Takes cs tail digits) (sym is) (subst (λ t. FitsTail t digits) same (always digits within long))

pub none-ends : (set : Bytes) (digits : List ℕ) → IsPart set none → Within set digits → digits ≡ []
none-ends set [] empty within = refl
none-ends set (d ∷ digits) empty within = let no : false ≡ true = empty d within.0 in absurd cc

-- ---- a name

pub covered_name_matches : (pieces : List PieceOf) (set : Bytes) (name found : Meaning) → ((byte : ℕ) → set byte ≡ pieces_set pieces byte) → set 45 ≡ false → found ≡ name
    → AlwaysTakes pieces (classes_of found) (tail_of found) → (text : List ℕ) → Fits pieces text → Matches name text
covered_name_matches pieces set name found same dashless is always text fits =
    name-takes name text
    (subst (λ n. Takes (classes_of n) (tail_of n) (without_dashes text)) is
    (subst (Takes (classes_of found) (tail_of found)) (sym (no-dashes (pieces_set pieces) text (sym (same 45) ∙ dashless) (fits-set pieces text fits))) (always text fits)))

-- a shape that may contain dashes, given its set
pub unmatched-dashed : (pieces : List PieceOf) (set : Bytes) (name found : Meaning) → ((byte : ℕ) → set byte ≡ pieces_set pieces byte) → found ≡ name
    → MissesWithin set 0 (classes_of found) (tail_of found) → (text : List ℕ) → Fits pieces text → Matches name text → ⊥
unmatched-dashed pieces set name found same is misses text fits matching =
    misses (without_dashes text) (within-without_dashes set text (subst (λ s. Within s text) (λ i byte. sym (same byte) i) (fits-set pieces text fits))) (omega arith)
    (subst (λ n. Takes (classes_of n) (tail_of n) (without_dashes text)) (sym is) (takes-name name text matching))

pub missed_name_differs : (pieces : List PieceOf) (set : Bytes) (name found : Meaning) → ((byte : ℕ) → set byte ≡ pieces_set pieces byte) → set 45 ≡ false → found ≡ name
    → Misses pieces (classes_of found) (tail_of found) → (text : List ℕ) → Fits pieces text → Matches name text → ⊥
missed_name_differs pieces set name found same dashless is misses text fits matching =
    misses text fits
    (subst (Takes (classes_of found) (tail_of found)) (no-dashes (pieces_set pieces) text (sym (same 45) ∙ dashless) (fits-set pieces text fits))
    (subst (λ n. Takes (classes_of n) (tail_of n) (without_dashes text)) (sym is) (takes-name name text matching)))
