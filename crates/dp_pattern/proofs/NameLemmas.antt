-- The parts of the meaning of a text.
use Rattle.std.proofs.Common.{◌≡◌, ℕ, zero, suc, ◌<◌, ◌≤◌, Bool, true, false, cond, ◌&&◌, ◌==◌, nat_le, nat_lt, List, [], ◌∷◌, length, take, length-take, get_or-take, get_or, codes, Some, None, Ok, Err, refl, sym, ap, ◌∙◌, subst, arith}
use Rattle.std.specs.List.{AllByRecursion, position, position_or_len}
use Rattle.std.proofs.lemmas.Bool.Decides.{nat_tests}
use Rattle.std.proofs.lemmas.List.Sums.{fails_before_first}
use Rattle.dp_pattern.specs.Classes.{class_by}
use Rattle.dp_pattern.specs.Dashes.{is_dash}
use Rattle.dp_pattern.specs.Name.{PatternPieceOf, Dash, Wild, Byte, Set, Unclosed, is_bad, is_one_of, class_of, is_end, set_piece, set_size, piece_of, pieces_after, pieces_of}
use Rattle.dp_pattern.specs.declared.fault.NameFault.TheVariants.{BadByte}
use Rattle.dp_pattern.specs.declared.tail.Tail.TheVariants.{Dot, Bang}
use Rattle.dp_pattern.proofs.ClassLemmas.{class_by-digits, class_by-digits_from_1, class_by-digits_from_2, class_by-byte}
use Rattle.dp_pattern.proofs.PieceLemmas.{pieces_of-set, pieces_of-byte}

-- a byte that may be in a class
abbrev pub IsMember : ℕ → Type 0
IsMember b = (is_dash b ≡ false) × (is_bad b ≡ false)

-- a class that some piece of a text means
pub record IsClass (class : List ℕ) : Type 0 where
  pub test : ℕ → Bool
  pub listed : class ≡ class_by test
  pub first : ℕ
  pub below : first < 256
  pub passes : test first ≡ true
  pub fine : (b : ℕ) → b < 256 → test b ≡ true → IsMember b
  pub alone : test 93 ≡ true → class ≡ 93 ∷ []

abbrev IsByte : ℕ → Type 0
IsByte b = b < 256

-- the bytes that may be in a set
abbrev pub IsListed : ℕ → Type 0
IsListed b = (b < 256) × (is_end b ≡ false)

abbrev pub IsPiece : PatternPieceOf → Type 0
IsPiece Dash = Unit {0}
IsPiece (Wild tail) = Unit {0}
IsPiece (Byte b) = (b < 256) × (is_dash b ≡ false)
IsPiece (Set bytes) = AllByRecursion IsListed bytes
IsPiece Unclosed = Unit {0}

pub each_by_index : (P : ℕ → Type 0) (xs : List ℕ) → ((k : ℕ) → k < length xs → P (get_or xs k 0)) → AllByRecursion P xs
each_by_index P [] each = tt
each_by_index P (x ∷ xs) each = (each 0 (omega arith), each_by_index P xs (λ k within. each (suc k) (omega arith)))

pub each_of : (P : ℕ → Type 0) (xs : List ℕ) → AllByRecursion P xs → (k : ℕ) → k < length xs → P (get_or xs k 0)
each_of P [] each k within = absurd (omega arith)
each_of P (x ∷ xs) each zero within = each.0
each_of P (x ∷ xs) each (suc k) within = each_of P xs each.1 k (omega arith)

-- ---- the pieces

set_bytes : (text : List ℕ) → AllByRecursion IsByte text → AllByRecursion IsListed (take (position_or_len is_end text) text)
set_bytes text bytes =
    let place = position_or_len is_end text in
    each_by_index IsListed (take place text) (λ k within.
    let low : k < place = omega (arith, length-take place text) in
    let inside : k < length text = omega (arith, length-take place text) in
    let same : get_or (take place text) k 0 ≡ get_or text k 0 = get_or-take place text k 0 low in
    (subst (λ (b : ℕ). b < 256) (sym same) (each_of IsByte text bytes k inside), ap is_end same ∙ fails_before_first is_end text k 0 low))

set_is_piece : (text : List ℕ) → AllByRecursion IsByte text → IsPiece (set_piece (position is_end text) text)
set_is_piece text bytes = by_test (nat_lt (position_or_len is_end text) (length text))
  where
    by_test : (t : Bool) → IsPiece (set_piece (cond t (Some (position_or_len is_end text)) None) text)
    by_test true = set_bytes text bytes
    by_test false = tt

byte_is_piece : (b : ℕ) → b < 256 → IsPiece (piece_of b)
byte_is_piece b below = by_tests (is_dash b) refl (b == 46) (b == 33)
  where
    by_tests : (dash : Bool) → is_dash b ≡ dash → (dot bang : Bool) → IsPiece (cond dash Dash (cond dot (Wild Dot) (cond bang (Wild Bang) (Byte b))))
    by_tests true e dot bang = tt
    by_tests false e true bang = tt
    by_tests false e false true = tt
    by_tests false e false false = (below, e)

pub pieces_after-each : (n : ℕ) (text : List ℕ) → AllByRecursion IsByte text → AllByRecursion IsPiece (pieces_after n text)
pieces_after-each zero [] bytes = tt
pieces_after-each (suc n) [] bytes = tt
pieces_after-each (suc n) (b ∷ text) bytes = pieces_after-each n text bytes.1
pieces_after-each zero (b ∷ text) bytes = by_test (λ n. pieces_after-each n text bytes.1) (b == 91) refl
  where
    by_test : ((n : ℕ) → AllByRecursion IsPiece (pieces_after n text)) → (t : Bool) → (b == 91) ≡ t → AllByRecursion IsPiece (pieces_of (b ∷ text))
    by_test later true e =
        subst (AllByRecursion IsPiece) (sym (pieces_of-set b text e)) (set_is_piece text bytes.1, later (set_size (position is_end text) text))
    by_test later false e =
        subst (AllByRecursion IsPiece) (sym (pieces_of-byte b text e)) (byte_is_piece b bytes.0, later zero)

-- ---- the classes

digits_from : (first : ℕ) (class : List ℕ) → 48 ≤ first → first ≤ 57 → class_by (λ b. nat_le first b && nat_le b 57) ≡ class → IsClass class
digits_from first class above below e = record {
  test = λ b. nat_le first b && nat_le b 57;
  listed = sym e;
  first = first;
  below = omega arith;
  passes = grind (arith, nat_tests);
  fine = λ b _ h. (grind (arith, nat_tests), grind (arith, nat_tests));
  alone = λ h. absurd (grind (arith, nat_tests));
}

single : (b : ℕ) → b < 256 → IsMember b → IsClass (b ∷ [])
single b below member = record {
  test = λ a. b == a;
  listed = sym (class_by-byte b below);
  first = b;
  below = below;
  passes = grind (arith, nat_tests);
  fine = λ a _ h. let same : b ≡ a = grind (arith, nat_tests) in subst IsMember same member;
  alone = λ h. let same : b ≡ 93 = grind (arith, nat_tests) in ap (λ a. a ∷ []) same;
}

pub class_of-class : (b : ℕ) → b < 256 → is_dash b ≡ false → (class : List ℕ) → class_of b ≡ Ok class → IsClass class
class_of-class b below dash class e =
    by_tests (is_one_of (codes "Xx") b) (is_one_of (codes "Zz") b) (is_one_of (codes "Nn") b) (is_bad b) refl e
  where
    by_tests : (x z n bad : Bool) → is_bad b ≡ bad → cond x (Ok (codes "0123456789")) (cond z (Ok (codes "123456789")) (cond n (Ok (codes "23456789")) (cond bad (Err BadByte) (Ok (b ∷ []))))) ≡ Ok class → IsClass class
    by_tests true z n bad f e = let same : codes "0123456789" ≡ class = cc in digits_from 48 class (omega arith) (omega arith) (class_by-digits ∙ same)
    by_tests false true n bad f e = let same : codes "123456789" ≡ class = cc in digits_from 49 class (omega arith) (omega arith) (class_by-digits_from_1 ∙ same)
    by_tests false false true bad f e = let same : codes "23456789" ≡ class = cc in digits_from 50 class (omega arith) (omega arith) (class_by-digits_from_2 ∙ same)
    by_tests false false false true f e = absurd cc
    by_tests false false false false f e = let same : b ∷ [] ≡ class = cc in subst IsClass same (single b below (dash, f))
