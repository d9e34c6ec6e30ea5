-- A spelling reads as its name again.
use Rattle.std.proofs.Common.{◌≡◌, ℕ, zero, suc, ◌+◌, ◌<◌, Bool, true, false, cond, not, ◌||◌, ◌==◌, nat_lt, List, [], ◌∷◌, ◌++◌, length, take, drop, codes, bytes_eq, Some, None, Ok, Err, append_assoc, length-append, ne_eqb, true≢false, refl, sym, ap, ◌∙◌, subst, arith}
use Rattle.std.specs.List.{AllByRecursion, filter, range_with_len, list_any, position, position_or_len, flat_map}
use Rattle.std.proofs.lemmas.Bool.Decides.{nat_tests}
use Rattle.std.proofs.lemmas.Slice.Eq.{bytes_eq-Decides}
use Rattle.dp_pattern.specs.Classes.{byte_count, class_by}
use Rattle.dp_pattern.specs.Dashes.{is_dash, without_dashes, from_first}
use Rattle.dp_pattern.specs.Name.{◌>>=◌, Meaning, Plain, Pattern, Byte, Set, is_bad, is_one_of, is_end, items_of, or_else, first_fault, lists, unless_fault, class_of_items, class_of_set, class_of, piece_of, pieces_of, pieces_after, set_piece, set_size, parts_of, with_class, pattern_of, pattern_reading, plain_of, reading_of, meaning_of, IsName}
use Rattle.dp_pattern.specs.Spelling.{stands_alone, class_spelling, tail_spelling, spelling}
use Rattle.dp_pattern.specs.declared.class.SetItem.{SetItem}
use Rattle.dp_pattern.specs.declared.class.SetItem.TheVariants.{One}
use Rattle.dp_pattern.specs.declared.fault.NameFault.TheVariants.{BadByte, BadRange}
use Rattle.dp_pattern.proofs.SetLemmas.{items_of-one}
use Rattle.dp_pattern.specs.declared.tail.Tail.{Tail}
use Rattle.dp_pattern.specs.declared.tail.Tail.TheVariants.{End, Dot, Bang}
use Rattle.dp_pattern.proofs.ClassLemmas.{class_by-same, is_one_of-class_by}
use Rattle.dp_pattern.proofs.PieceLemmas.{pieces_of-set, pieces_of-byte, pieces_after-drop}
use Rattle.dp_pattern.proofs.NameLemmas.{IsClass, IsMember}
use Rattle.dp_pattern.proofs.MeaningLemmas.{IsMeaning, name_means}

-- what holds of each byte that passes the test holds of each member of its class
each_in_range : (P : ℕ → Type 0) (p : ℕ → Bool) (low n : ℕ) → ((b : ℕ) → b < low + n → p b ≡ true → P b) → AllByRecursion P (filter p (range_with_len low n))
each_in_range P p low zero each = tt
each_in_range P p low (suc n) each = by_test (each_in_range P p (low + 1) n (λ b below. each b (omega arith))) (p low) refl
  where
    by_test : AllByRecursion P (filter p (range_with_len (low + 1) n)) → (t : Bool) → p low ≡ t → AllByRecursion P (cond t (low ∷ filter p (range_with_len (low + 1) n)) (filter p (range_with_len (low + 1) n)))
    by_test after true e = (each low (omega arith) e, after)
    by_test after false e = after

pub each_member : (P : ℕ → Type 0) (p : ℕ → Bool) → ((b : ℕ) → b < 256 → p b ≡ true → P b) → AllByRecursion P (class_by p)
unfolding byte_count
each_member P p each = each_in_range P p 0 256 each

-- ---- a set

ones : List ℕ → List SetItem
ones [] = []
ones (b ∷ bytes) = One b ∷ ones bytes

items_of-ones : (bytes : List ℕ) → AllByRecursion IsMember bytes → items_of bytes ≡ ones bytes
unfolding ones
items_of-ones [] each = refl
items_of-ones (a ∷ []) each = refl
items_of-ones (a ∷ b ∷ []) each = refl
items_of-ones (a ∷ b ∷ c ∷ bytes) each =
    items_of-one a b c bytes each.1.0.0 ∙ ap (λ items. One a ∷ items) (items_of-ones (b ∷ c ∷ bytes) each.1)

first_fault-ones : (bytes : List ℕ) → AllByRecursion IsMember bytes → first_fault (ones bytes) ≡ None
unfolding ones
first_fault-ones [] each = refl
first_fault-ones (b ∷ bytes) each =
    ap (λ t. or_else (cond t (Some BadRange) (cond (is_bad b) (Some BadByte) None)) (first_fault (ones bytes))) each.0.0
    ∙ ap (λ t. or_else (cond t (Some BadByte) None) (first_fault (ones bytes))) each.0.1
    ∙ first_fault-ones bytes each.1

lists-ones : (bytes : List ℕ) (b : ℕ) → list_any (lists b) (ones bytes) ≡ is_one_of bytes b
unfolding ones
lists-ones [] b = refl
lists-ones (a ∷ bytes) b =
    let turned : (a == b) ≡ (b == a) = grind (arith, nat_tests) in
    ap (λ t. t || list_any (lists b) (ones bytes)) turned ∙ ap (λ t. (b == a) || t) (lists-ones bytes b)

-- the members of a class list it
class_of_set-members : (class : List ℕ) → IsClass class → AllByRecursion IsMember class → class_of_set class ≡ Ok class
class_of_set-members [] k each =
    absurd (true≢false (sym (ap (λ c. is_one_of c k.first) k.listed ∙ is_one_of-class_by k.test k.first k.below ∙ k.passes)))
class_of_set-members (b ∷ bytes) k each =
    let class = b ∷ bytes in
    ap class_of_items (items_of-ones class each)
    ∙ ap (λ fault. unless_fault fault (class_by (λ x. list_any (lists x) (ones class)))) (first_fault-ones class each)
    ∙ ap Ok (class_by-same (λ x. list_any (lists x) (ones class)) k.test (λ x below. lists-ones class x ∙ ap (λ c. is_one_of c x) k.listed ∙ is_one_of-class_by k.test x below) ∙ sym k.listed)

-- ---- the set in a text

abbrev IsNoEnd : ℕ → Type 0
IsNoEnd b = is_end b ≡ false

place_of_end : (bytes more : List ℕ) → AllByRecursion IsNoEnd bytes → position_or_len is_end (bytes ++ 93 ∷ more) ≡ length bytes
place_of_end [] more each = refl
place_of_end (b ∷ bytes) more each =
    let one : 1 + length bytes ≡ suc (length bytes) = omega arith in
    ap (λ t. cond (not t) (1 + position_or_len is_end (bytes ++ 93 ∷ more)) 0) each.0 ∙ ap (λ n. 1 + n) (place_of_end bytes more each.1) ∙ one

position_of_end : (bytes more : List ℕ) → AllByRecursion IsNoEnd bytes → position is_end (bytes ++ 93 ∷ more) ≡ Some (length bytes)
position_of_end bytes more each =
    let place = place_of_end bytes more each in
    let long = length-append bytes (93 ∷ more) in
    let within : nat_lt (length bytes) (length (bytes ++ 93 ∷ more)) ≡ true = grind (arith, nat_tests) in
    ap (λ n. cond (nat_lt n (length (bytes ++ 93 ∷ more))) (Some n) None) place ∙ ap (λ t. cond t (Some (length bytes)) None) within

take_front : (bytes more : List ℕ) → take (length bytes) (bytes ++ more) ≡ bytes
take_front [] more = refl
take_front (b ∷ bytes) more = ap (λ xs. b ∷ xs) (take_front bytes more)

drop_front : (bytes more : List ℕ) (b : ℕ) → drop (length bytes + 1) (bytes ++ b ∷ more) ≡ more
drop_front [] more b = refl
drop_front (x ∷ bytes) more b =
    let one : suc (length bytes) + 1 ≡ suc (length bytes + 1) = omega arith in
    ap (λ n. drop n (x ∷ (bytes ++ b ∷ more))) one ∙ drop_front bytes more b

set_pieces : (bytes more : List ℕ) → AllByRecursion IsNoEnd bytes → pieces_of (91 ∷ (bytes ++ 93 ∷ more)) ≡ Set bytes ∷ pieces_of more
set_pieces bytes more each =
    let place = position_of_end bytes more each in
    pieces_of-set 91 (bytes ++ 93 ∷ more) refl
    ∙ ap (λ n. set_piece n (bytes ++ 93 ∷ more) ∷ pieces_after (set_size n (bytes ++ 93 ∷ more)) (bytes ++ 93 ∷ more)) place
    ∙ (λ i. Set (take_front bytes (93 ∷ more) i) ∷ (pieces_after-drop (length bytes + 1) (bytes ++ 93 ∷ more) ∙ ap pieces_of (drop_front bytes more 93)) i)

-- ---- a class

-- a byte that means itself
alone_pieces : (b : ℕ) (more : List ℕ) → IsMember b → not (is_one_of (codes "XxZzNn[.!") b) ≡ true → parts_of (pieces_of (b ∷ more)) ≡ with_class (Ok (b ∷ [])) (parts_of (pieces_of more))
alone_pieces b more member alone =
    let no_set : (b == 91) ≡ false = grind (arith, nat_tests) in
    let no_dot : (b == 46) ≡ false = grind (arith, nat_tests) in
    let no_bang : (b == 33) ≡ false = grind (arith, nat_tests) in
    let no_x : is_one_of (codes "Xx") b ≡ false = grind (arith, nat_tests) in
    let no_z : is_one_of (codes "Zz") b ≡ false = grind (arith, nat_tests) in
    let no_n : is_one_of (codes "Nn") b ≡ false = grind (arith, nat_tests) in
    let itself : class_of b ≡ Ok (b ∷ []) = rw (no_x, no_z, no_n, member.1) refl in
    let piece : piece_of b ≡ Byte b = rw (member.0, no_dot, no_bang) refl in
    ap parts_of (pieces_of-byte b more no_set ∙ ap (λ p. p ∷ pieces_of more) piece) ∙ ap (λ c. with_class c (parts_of (pieces_of more))) itself

-- the text reads as the class, and more after it
abbrev ReadsAs : List ℕ → List ℕ → List ℕ → Type 0
ReadsAs class more text = parts_of (pieces_of (text ++ more)) ≡ with_class (Ok class) (parts_of (pieces_of more))

class_pieces : (class more : List ℕ) → IsClass class → parts_of (pieces_of (class_spelling class ++ more)) ≡ with_class (Ok class) (parts_of (pieces_of more))
class_pieces class more k =
    by_tests (bytes_eq class (codes "0123456789")) refl (bytes_eq class (codes "123456789")) refl (bytes_eq class (codes "23456789")) refl (stands_alone class) refl
  where
    each : AllByRecursion IsMember class
    each = subst (AllByRecursion IsMember) (sym k.listed) (each_member IsMember k.test k.fine)

    digits : (letter : ℕ) (members : List ℕ) → bytes_eq class members ≡ true → parts_of (pieces_of (letter ∷ more)) ≡ with_class (Ok members) (parts_of (pieces_of more)) → ReadsAs class more (letter ∷ [])
    digits letter members e read = read ∙ ap (λ c. with_class (Ok c) (parts_of (pieces_of more))) (sym ((bytes_eq-Decides class members).0 e))

    by_alone : (bytes : List ℕ) → bytes ≡ class → AllByRecursion IsMember bytes → stands_alone bytes ≡ true → ReadsAs class more bytes
    by_alone [] e each alone = absurd (true≢false (sym alone))
    by_alone (b ∷ []) e each alone = alone_pieces b more each.0 alone ∙ ap (λ c. with_class (Ok c) (parts_of (pieces_of more))) e
    by_alone (a ∷ b ∷ bytes) e each alone = absurd (true≢false (sym alone))

    by_end : stands_alone class ≡ false → (t : Bool) → k.test 93 ≡ t → AllByRecursion IsNoEnd class
    by_end set true e = absurd (true≢false (ap stands_alone (sym (k.alone e)) ∙ set))
    by_end set false e =
        subst (AllByRecursion IsNoEnd) (sym k.listed) (each_member IsNoEnd k.test (λ b _ h. ne_eqb b 93 (λ same. true≢false (sym h ∙ ap k.test same ∙ e))))

    as_set : stands_alone class ≡ false → ReadsAs class more (codes "[" ++ class ++ codes "]")
    as_set set =
        ap (λ text. parts_of (pieces_of (91 ∷ text))) (append_assoc class (codes "]") more)
        ∙ ap parts_of (set_pieces class more (by_end set (k.test 93) refl))
        ∙ ap (λ c. with_class c (parts_of (pieces_of more))) (class_of_set-members class k each)

    by_tests : (x : Bool) → bytes_eq class (codes "0123456789") ≡ x → (z : Bool) → bytes_eq class (codes "123456789") ≡ z → (n : Bool) → bytes_eq class (codes "23456789") ≡ n → (alone : Bool) → stands_alone class ≡ alone → ReadsAs class more (cond x (codes "X") (cond z (codes "Z") (cond n (codes "N") (cond alone class (codes "[" ++ class ++ codes "]")))))
    by_tests true e z f n g alone h = digits 88 (codes "0123456789") e refl
    by_tests false e true f n g alone h = digits 90 (codes "123456789") f refl
    by_tests false e false f true g alone h = digits 78 (codes "23456789") g refl
    by_tests false e false f false g true h = by_alone class refl each h
    by_tests false e false f false g false h = as_set h

-- ---- a name

tail_pieces : (tail : Tail) → parts_of (pieces_of (tail_spelling tail)) ≡ Ok ([], tail)
tail_pieces End = refl
tail_pieces Dot = refl
tail_pieces Bang = refl

parts_again : (classes : List (List ℕ)) (tail : Tail) → AllByRecursion IsClass classes → parts_of (pieces_of (flat_map class_spelling classes ++ tail_spelling tail)) ≡ Ok (classes, tail)
parts_again [] tail each = tail_pieces tail
parts_again (class ∷ classes) tail each =
    ap (λ text. parts_of (pieces_of text)) (append_assoc (class_spelling class) (flat_map class_spelling classes) (tail_spelling tail))
    ∙ class_pieces class (flat_map class_spelling classes ++ tail_spelling tail) each.0
    ∙ ap (with_class (Ok class)) (parts_again classes tail each.1)

from_first-itself : (b : ℕ) (text : List ℕ) → is_dash b ≡ false → from_first (b ∷ text) ≡ b ∷ text
from_first-itself b text e = ap (λ t. cond t (from_first text) (b ∷ text)) e

means_again : (name : Meaning) → IsMeaning name → meaning_of (spelling name) ≡ Ok name
unfolding meaning_of spelling
means_again (Plain text) k =
    ap (λ t. meaning_of t) k.begins
    ∙ ap reading_of (from_first-itself k.first k.after k.no_dash)
    ∙ ap (λ t. cond t (pattern_reading k.after) (plain_of (k.first ∷ k.after))) k.no_pattern
    ∙ ap plain_of (sym k.begins)
    ∙ ap (λ t. cond t (Err BadByte) (Ok (Plain (without_dashes text)))) k.fine
    ∙ ap (λ t. Ok (Plain t)) k.dashless
means_again (Pattern classes tail) k =
    ap (λ parts. parts >>= pattern_of) (parts_again classes tail k.0) ∙ k.1

-- the canonical spelling of each name reads as that name
pub spelled_again : (name : Meaning) → IsName name → meaning_of (spelling name) ≡ Ok name
spelled_again name named = means_again name (name_means name named)
