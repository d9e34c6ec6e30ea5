-- New sets and pieces, and the places of names.
use Rattle.std.proofs.Common.{◌≡◌, ℕ, zero, suc, ◌+◌, ◌<◌, ◌≤◌, Bool, true, false, cond, ◌||◌, List, [], ◌∷◌, ◌++◌, length, drop, get_or, add-one, drop-cons, append_assoc, ne_eqb, refl, sym, ap, ◌∙◌, subst, arith}
use Rattle.std.proofs.lemmas.List.{map-append}
use Rattle.std.specs.List.{AllByRecursion, filter, range_with_len}
use Rattle.dp_pattern.proofs.MeaningLemmas.{IsMeaning, name_means}
use Rattle.dp_pattern.proofs.NameLemmas.{IsClass}
use Rattle.dp_pattern.specs.Classes.{byte_count}
use Rattle.dp_pattern.specs.Name.{IsName, Meaning, Plain, Pattern}
use Rattle.dp_pattern.specs.Walk.{classes_of, singles}
use Rattle.dp_pattern.specs.declared.tail.Tail.{Tail}
use Rattle.dp_pieces.specs.Bytes.{Bytes, both, either}
use Rattle.dp_pieces.specs.Met.{met_classes, met_tail}
use Rattle.dp_pieces.specs.Pieces.{AnyOf, Known, OneOf, PieceOf, bytes_in, any_bytes_of, piece_set, pieces_set}
use Rattle.dp_pieces.specs.Sets.{set_by}
use Rattle.dp_pieces.specs.ShapeSteps.{AreAllBytes, AreBytes, is_any}
use Rattle.dp_pieces.specs.Shown.{shown_piece, shown_all}
use Rattle.dp_pieces.specs.declared.piece.Piece.{Piece as Kept}
use Rattle.dp_pieces.specs.declared.piece.Piece.TheVariants as kept

-- the element at the place of a loop, and those after it
pub next-dropped : {A : Type 0} (xs : List A) (i : ℕ) (x : A) → i < length xs → x ≡ get_or xs i x → drop i xs ≡ x ∷ drop (i + 1) xs
next-dropped xs i x within is = drop-cons xs i x within ∙ (λ j. sym is j ∷ drop (sym (add-one i) j) xs)

or-assoc : (a b c : Bool) → ((a || b) || c) ≡ (a || (b || c))
or-assoc true b c = refl
or-assoc false b c = refl

-- one more piece is added
pub set-step : (old new all : Bytes) (piece : PieceOf) (left later : List PieceOf) → left ≡ piece ∷ later → ((byte : ℕ) → new byte ≡ either old (piece_set piece) byte)
    → ((byte : ℕ) → either old (pieces_set left) byte ≡ all byte) → (byte : ℕ) → either new (pieces_set later) byte ≡ all byte
unfolding pieces_set
set-step old new all piece left later is added so_far byte =
    ap (λ t. t || pieces_set later byte) (added byte)
    ∙ (or-assoc (old byte) (piece_set piece byte) (pieces_set later byte)
    ∙ (ap (λ ps. old byte || pieces_set ps byte) (sym is) ∙ so_far byte))

-- nothing is left
or-false : (a : Bool) → (a || false) ≡ a
or-false true = refl
or-false false = refl

pub set-end : (old all : Bytes) (left : List PieceOf) → left ≡ [] → ((byte : ℕ) → either old (pieces_set left) byte ≡ all byte) → (byte : ℕ) → old byte ≡ all byte
unfolding pieces_set
set-end old all left is so_far byte = sym (or-false (old byte)) ∙ (ap (λ ps. old byte || pieces_set ps byte) (sym is) ∙ so_far byte)

-- one more piece is added at the end
pub shown_piece-push : (old : List Kept) (piece : Kept) (more : List PieceOf) → shown_all (old ++ piece ∷ []) ++ more ≡ shown_all old ++ shown_piece piece ∷ more
shown_piece-push old piece more = ap (λ ps. ps ++ more) (map-append shown_piece old (piece ∷ [])) ∙ append_assoc (shown_all old) (shown_piece piece ∷ []) more

-- any number of bytes of a set is one piece, with only bytes of the set
any_bytes_of-set : (set : Bytes) → pieces_set (any_bytes_of set) ≡ set
unfolding pieces_set
any_bytes_of-set set = λ i byte. or-false (set byte) i

any_bytes_of-met : (set : Bytes) (class : List ℕ) (classes : List (List ℕ)) (tail : Tail) → met_classes (any_bytes_of set) (class ∷ classes) tail ≡ OneOf (both set (bytes_in class)) ∷ met_classes (any_bytes_of set) classes tail
any_bytes_of-met set class classes tail = ap (λ s. OneOf (both s (bytes_in class)) ∷ met_classes (any_bytes_of s) classes tail) (any_bytes_of-set set)

-- any number of bytes of a set, met with one more class
pub any-step : (old new : List Kept) (set : Bytes) (met : List ℕ) (class : List ℕ) (left later : List (List ℕ)) (tail : Tail) (all : List PieceOf)
    → left ≡ class ∷ later → ((byte : ℕ) → set_by met byte ≡ both set (bytes_in class) byte) → new ≡ old ++ kept.OneOf met ∷ []
    → shown_all old ++ met_classes (any_bytes_of set) left tail ≡ all → shown_all new ++ met_classes (any_bytes_of set) later tail ≡ all
any-step old new set met class left later tail all is same pushed so_far =
    ap (λ ps. shown_all ps ++ met_classes (any_bytes_of set) later tail) pushed
    ∙ (shown_piece-push old (kept.OneOf met) (met_classes (any_bytes_of set) later tail)
    ∙ (ap (λ s. shown_all old ++ OneOf s ∷ met_classes (any_bytes_of set) later tail) (λ i byte. same byte i)
    ∙ (ap (λ ps. shown_all old ++ ps) (sym (any_bytes_of-met set class later tail))
    ∙ (ap (λ cs. shown_all old ++ met_classes (any_bytes_of set) cs tail) (sym is) ∙ so_far))))

-- no class is left, and any bytes may come after
pub any-end : (old new : List Kept) (set : Bytes) (copy : List ℕ) (left : List (List ℕ)) (tail : Tail) (all : List PieceOf)
    → left ≡ [] → met_tail (any_bytes_of set) tail ≡ any_bytes_of set → ((byte : ℕ) → set_by copy byte ≡ set byte) → new ≡ old ++ kept.AnyOf copy ∷ []
    → shown_all old ++ met_classes (any_bytes_of set) left tail ≡ all → shown_all new ≡ all
any-end old new set copy left tail all is follows same pushed so_far =
    ap shown_all pushed
    ∙ (map-append shown_piece old (kept.AnyOf copy ∷ [])
    ∙ (ap (λ s. shown_all old ++ any_bytes_of s) (λ i byte. same byte i)
    ∙ (ap (λ ps. shown_all old ++ ps) (sym follows)
    ∙ (ap (λ cs. shown_all old ++ met_classes (any_bytes_of set) cs tail) (sym is) ∙ so_far))))

-- from a piece with any number of bytes on, the pieces are met as any number of bytes of all of them
pub any-met : (piece : PieceOf) (later left : List PieceOf) (class : List ℕ) (after classes : List (List ℕ)) (tail : Tail) (set : Bytes) → is_any piece ≡ true → left ≡ piece ∷ later → classes ≡ class ∷ after
    → ((byte : ℕ) → set byte ≡ pieces_set left byte) → met_classes left classes tail ≡ met_classes (any_bytes_of set) classes tail
any-met (Known byte) later left class after classes tail set any is begins same = absurd cc
any-met (OneOf bytes) later left class after classes tail set any is begins same = absurd cc
any-met (AnyOf bytes) later left class after classes tail set any is begins same =
    let whole : Bytes = pieces_set (AnyOf bytes ∷ later) in
    let all : set ≡ whole = λ i byte. (same byte ∙ ap (λ ps. pieces_set ps byte) is) i in
    (λ i. met_classes (is i) (begins i) tail)
    ∙ (sym (any_bytes_of-met whole class after tail)
    ∙ (λ i. met_classes (any_bytes_of (sym all i)) (sym begins i) tail))

-- the bytes of a range are below its end
range-bytes : (test : ℕ → Bool) (byte low n : ℕ) → low + n ≤ byte → bytes_in (filter test (range_with_len low n)) byte ≡ false
range-bytes test byte low zero above = refl
range-bytes test byte low (suc n) above = by (test low) (range-bytes test byte (low + 1) n (omega (arith, above)))
  where
    by : (passes : Bool) → bytes_in (filter test (range_with_len (low + 1) n)) byte ≡ false
        → bytes_in (cond passes (low ∷ filter test (range_with_len (low + 1) n)) (filter test (range_with_len (low + 1) n))) byte ≡ false
    by true later = ap (λ t. t || bytes_in (filter test (range_with_len (low + 1) n)) byte) (ne_eqb low byte (λ same. absurd (omega (arith, above, same)))) ∙ later
    by false later = later

class-bytes : (class : List ℕ) → IsClass class → AreBytes class
unfolding byte_count
class-bytes class is = subst AreBytes (sym is.listed) (λ byte above. range-bytes is.test byte 0 256 (omega (arith, above)))

classes-bytes : (classes : List (List ℕ)) → AllByRecursion IsClass classes → AreAllBytes classes
classes-bytes [] are = tt
classes-bytes (class ∷ classes) are = (class-bytes class are.0, classes-bytes classes are.1)

text-bytes : (text : List ℕ) → AllByRecursion (λ b. b < 256) text → AreAllBytes (singles text)
text-bytes [] are = tt
text-bytes (b ∷ text) are =
    (λ byte above. ap (λ t. t || false) (ne_eqb b byte (λ same. absurd (omega (arith, above, same, are.0)))), text-bytes text are.1)

-- the classes of a name contain only bytes
pub name-bytes : (name : Meaning) → IsName name → AreAllBytes (classes_of name)
name-bytes name named = by name (name_means name named)
  where
    by : (name : Meaning) → IsMeaning name → AreAllBytes (classes_of name)
    by (Plain text) means = text-bytes text means.bytes
    by (Pattern classes tail) means = classes-bytes classes means.0
