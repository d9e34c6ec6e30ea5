-- The bytes of a spelling.
use Rattle.std.proofs.Common.{◌≡◌, ℕ, zero, suc, ◌+◌, Bool, true, false, cond, not, ◌||◌, ◌==◌, List, [], ◌∷◌, ◌++◌, take, codes, bytes_eq, Option, Some, None, Result, Ok, Err, eqb-true, true≢false, refl, sym, ap, ◌∙◌, subst, arith}
use Rattle.std.specs.List.{AllByRecursion, filter, range_with_len, list_any, list_all, position, flat_map}
use Rattle.std.proofs.lemmas.Bool.Decides.{nat_tests}
use Rattle.std.proofs.lemmas.List.Folds.{list_any-append}
use Rattle.dp_pattern.specs.Classes.{byte_count, class_by}
use Rattle.dp_pattern.specs.Dashes.{is_dash, without_dashes, from_first}
use Rattle.dp_pattern.specs.Name.{◌>>=◌, Meaning, Plain, Pattern, PatternPieceOf, Dash, Wild, Byte, Set, Unclosed, is_bad, is_one_of, is_end, is_range, items_of, item_fault, first_fault, lists, unless_fault, class_of_set, class_of, piece_of, pieces_of, pieces_after, set_piece, set_size, is_dash_piece, Parts, parts_of, pattern_of, pattern_reading, plain_of, reading_of, meaning_of}
use Rattle.dp_pattern.specs.Spelling.{stands_alone, class_spelling, tail_spelling, spelling, is_own, SpellsCleanly}
use Rattle.dp_pattern.specs.declared.class.SetItem.{SetItem}
use Rattle.dp_pattern.specs.declared.class.SetItem.TheVariants.{One, Range}
use Rattle.dp_pattern.specs.declared.fault.NameFault.{NameFault}
use Rattle.dp_pattern.specs.declared.fault.NameFault.TheVariants.{BadByte, BadRange, AfterWildcard}
use Rattle.dp_pattern.specs.declared.tail.Tail.{Tail}
use Rattle.dp_pattern.specs.declared.tail.Tail.TheVariants.{End, Dot, Bang}
use Rattle.dp_pattern.proofs.PieceLemmas.{pieces_of-set, pieces_of-byte}
use Rattle.dp_pattern.proofs.NameLemmas.{IsClass, IsMember}
use Rattle.dp_pattern.proofs.SetLemmas.{items_of-range, items_of-one, fault_of_first}
use Rattle.dp_pattern.proofs.MeaningLemmas.{IsMeaning, name_means, with_class-ok, pattern_of-ok}
use Rattle.dp_pattern.proofs.SpellingLemmas.{each_member}
use Rattle.dp_pattern.proofs.WalkLemmas.{member}

-- ---- no bad byte

none_bad : (bytes : List ℕ) → AllByRecursion IsMember bytes → list_any is_bad bytes ≡ false
none_bad [] each = refl
none_bad (b ∷ bytes) each = ap (λ t. t || list_any is_bad bytes) each.0.1 ∙ none_bad bytes each.1

both_fine : (xs ys : List ℕ) → list_any is_bad xs ≡ false → list_any is_bad ys ≡ false → list_any is_bad (xs ++ ys) ≡ false
both_fine xs ys e f = list_any-append is_bad xs ys ∙ ap (λ t. t || list_any is_bad ys) e ∙ f

class_fine : (class : List ℕ) → IsClass class → list_any is_bad (class_spelling class) ≡ false
class_fine class k = by_tests (bytes_eq class (codes "0123456789")) (bytes_eq class (codes "123456789")) (bytes_eq class (codes "23456789")) (stands_alone class)
  where
    members : list_any is_bad class ≡ false
    members = none_bad class (subst (AllByRecursion IsMember) (sym k.listed) (each_member IsMember k.test k.fine))

    by_tests : (x z n alone : Bool) → list_any is_bad (cond x (codes "X") (cond z (codes "Z") (cond n (codes "N") (cond alone class (codes "[" ++ class ++ codes "]"))))) ≡ false
    by_tests true z n alone = refl
    by_tests false true n alone = refl
    by_tests false false true alone = refl
    by_tests false false false true = members
    by_tests false false false false = both_fine (codes "[" ++ class) (codes "]") (both_fine (codes "[") class refl members) refl

classes_fine : (classes : List (List ℕ)) → AllByRecursion IsClass classes → list_any is_bad (flat_map class_spelling classes) ≡ false
classes_fine [] each = refl
classes_fine (class ∷ classes) each = both_fine (class_spelling class) (flat_map class_spelling classes) (class_fine class each.0) (classes_fine classes each.1)

tail_fine : (tail : Tail) → list_any is_bad (tail_spelling tail) ≡ false
tail_fine End = refl
tail_fine Dot = refl
tail_fine Bang = refl

spelling_fine : (name : Meaning) → IsMeaning name → list_any is_bad (spelling name) ≡ false
unfolding spelling
spelling_fine (Plain text) k = k.fine
spelling_fine (Pattern classes tail) k =
    both_fine (codes "_" ++ flat_map class_spelling classes) (tail_spelling tail) (both_fine (codes "_") (flat_map class_spelling classes) refl (classes_fine classes k.0)) (tail_fine tail)

-- ---- bytes of a pattern that occur in its text

module _ (b : ℕ) (foreign : is_own b ≡ false) where
  either : {P : Type 0} (x y : Bool) → (x || y) ≡ true → (x ≡ true → P) → (y ≡ true → P) → P
  either true y e f g = f refl
  either false y e f g = g e

  or_left : (x y : Bool) → x ≡ true → (x || y) ≡ true
  or_left x y e = ap (λ t. t || y) e

  or_right : (x y : Bool) → y ≡ true → (x || y) ≡ true
  or_right true y e = refl
  or_right false y e = e

  in_both : {P : Type 0} (xs ys : List ℕ) → is_one_of (xs ++ ys) b ≡ true → (is_one_of xs b ≡ true → P) → (is_one_of ys b ≡ true → P) → P
  in_both xs ys e f g = either (is_one_of xs b) (is_one_of ys b) (sym (list_any-append (λ a. b == a) xs ys) ∙ e) f g

  not_digit : (digits : List ℕ) → ((c : ℕ) → c ≡ b → is_one_of digits c ≡ true → is_own c ≡ true) → is_one_of digits b ≡ true → ⊥
  not_digit digits own e = true≢false (sym (own b refl e) ∙ foreign)

  class_spelled : (class : List ℕ) → is_one_of (class_spelling class) b ≡ true → is_one_of class b ≡ true
  class_spelled class = by_tests (bytes_eq class (codes "0123456789")) (bytes_eq class (codes "123456789")) (bytes_eq class (codes "23456789")) (stands_alone class)
    where
      by_tests : (x z n alone : Bool) → is_one_of (cond x (codes "X") (cond z (codes "Z") (cond n (codes "N") (cond alone class (codes "[" ++ class ++ codes "]"))))) b ≡ true → is_one_of class b ≡ true
      by_tests true z n alone e = absurd (grind (arith, nat_tests))
      by_tests false true n alone e = absurd (grind (arith, nat_tests))
      by_tests false false true alone e = absurd (grind (arith, nat_tests))
      by_tests false false false true e = e
      by_tests false false false false e =
          in_both (codes "[" ++ class) (codes "]") e (λ front. in_both (codes "[") class front (λ h. absurd (grind (arith, nat_tests))) (λ h. h)) (λ h. absurd (grind (arith, nat_tests)))

  any_class : List (List ℕ) → Bool
  any_class classes = list_any (λ class. is_one_of class b) classes

  classes_spelled : (classes : List (List ℕ)) → is_one_of (flat_map class_spelling classes) b ≡ true → any_class classes ≡ true
  unfolding any_class
  classes_spelled [] e = absurd (true≢false (sym e))
  classes_spelled (class ∷ classes) e =
      in_both (class_spelling class) (flat_map class_spelling classes) e (λ h. or_left (is_one_of class b) (any_class classes) (class_spelled class h)) (λ h. or_right (is_one_of class b) (any_class classes) (classes_spelled classes h))

  tail_spelled : (tail : Tail) → is_one_of (tail_spelling tail) b ≡ true → ⊥
  tail_spelled End e = true≢false (sym e)
  tail_spelled Dot e = grind (arith, nat_tests)
  tail_spelled Bang e = grind (arith, nat_tests)

  -- the class of a test contains only bytes that pass it
  in_class : (p : ℕ → Bool) (low n : ℕ) → list_any (λ a. b == a) (filter p (range_with_len low n)) ≡ true → p b ≡ true
  in_class p low zero e = absurd (true≢false (sym e))
  in_class p low (suc n) e = by_test (in_class p (low + 1) n) (p low) refl e
    where
      by_test : (list_any (λ a. b == a) (filter p (range_with_len (low + 1) n)) ≡ true → p b ≡ true) → (t : Bool) → p low ≡ t → list_any (λ a. b == a) (cond t (low ∷ filter p (range_with_len (low + 1) n)) (filter p (range_with_len (low + 1) n))) ≡ true → p b ≡ true
      by_test later true t e =
          either (b == low) (list_any (λ a. b == a) (filter p (range_with_len (low + 1) n))) e (λ same. ap p (eqb-true b low same) ∙ t) later
      by_test later false t e = later e

  -- an item without a fault lists such a byte only if it is that byte itself
  item_lists : (item : SetItem) → item_fault item ≡ None → lists b item ≡ true → item ≡ One b
  item_lists (One a) fine e = ap One (eqb-true a b e)
  item_lists (Range from to) fine e = by_test (is_range from to) refl fine
    where
      by_test : (t : Bool) → is_range from to ≡ t → cond t None (Some BadRange) ≡ None → Range from to ≡ One b
      by_test true r f = absurd (grind (arith, nat_tests))
      by_test false r f = absurd cc

  has_one : List SetItem → Bool
  has_one [] = false
  has_one (One a ∷ items) = (b == a) || has_one items
  has_one (Range from to ∷ items) = has_one items

  items_list : (items : List SetItem) → first_fault items ≡ None → list_any (lists b) items ≡ true → has_one items ≡ true
  unfolding has_one
  items_list [] fine e = absurd (true≢false (sym e))
  items_list (One a ∷ items) fine e =
      let faults = fault_of_first (item_fault (One a)) (first_fault items) fine in
      let turned : (b == a) ≡ (a == b) = grind (arith, nat_tests) in
      either (a == b) (list_any (lists b) items) e (λ h. or_left (b == a) (has_one items) (turned ∙ h)) (λ h. or_right (b == a) (has_one items) (items_list items faults.1 h))
  items_list (Range from to ∷ items) fine e =
      let faults = fault_of_first (item_fault (Range from to)) (first_fault items) fine in
      either (lists b (Range from to)) (list_any (lists b) items) e (λ h. let same = item_lists (Range from to) faults.0 h in absurd cc) (items_list items faults.1)

  ones_in : (bytes : List ℕ) → has_one (items_of bytes) ≡ true → is_one_of bytes b ≡ true
  unfolding has_one
  ones_in [] e = e
  ones_in (a ∷ []) e = e
  ones_in (a ∷ c ∷ []) e = e
  ones_in (a ∷ c ∷ d ∷ bytes) e = by_test (ones_in bytes) (ones_in (c ∷ d ∷ bytes)) (is_dash c) refl
    where
      by_test : (has_one (items_of bytes) ≡ true → is_one_of bytes b ≡ true) → (has_one (items_of (c ∷ d ∷ bytes)) ≡ true → is_one_of (c ∷ d ∷ bytes) b ≡ true) → (t : Bool) → is_dash c ≡ t → is_one_of (a ∷ c ∷ d ∷ bytes) b ≡ true
      by_test after next true t =
          let found : has_one (items_of bytes) ≡ true = sym (ap has_one (items_of-range a c d bytes t)) ∙ e in
          or_right (b == a) (is_one_of (c ∷ d ∷ bytes) b) (or_right (b == c) (is_one_of (d ∷ bytes) b) (or_right (b == d) (is_one_of bytes b) (after found)))
      by_test after next false t =
          let found : ((b == a) || has_one (items_of (c ∷ d ∷ bytes))) ≡ true = sym (ap has_one (items_of-one a c d bytes t)) ∙ e in
          either (b == a) (has_one (items_of (c ∷ d ∷ bytes))) found (or_left (b == a) (is_one_of (c ∷ d ∷ bytes) b)) (λ h. or_right (b == a) (is_one_of (c ∷ d ∷ bytes) b) (next h))

  set_has : (bytes class : List ℕ) → class_of_set bytes ≡ Ok class → is_one_of class b ≡ true → is_one_of bytes b ≡ true
  unfolding byte_count
  set_has [] class e h = absurd cc
  set_has (a ∷ bytes) class e h = by_fault (first_fault (items_of (a ∷ bytes))) refl e
    where
      by_fault : (fault : Option NameFault) → first_fault (items_of (a ∷ bytes)) ≡ fault → unless_fault fault (class_by (λ x. list_any (lists x) (items_of (a ∷ bytes)))) ≡ Ok class → is_one_of (a ∷ bytes) b ≡ true
      by_fault None fine e =
          let same : class_by (λ x. list_any (lists x) (items_of (a ∷ bytes))) ≡ class = cc in
          let listed = in_class (λ x. list_any (lists x) (items_of (a ∷ bytes))) 0 256 (ap (λ c. is_one_of c b) same ∙ h) in
          ones_in (a ∷ bytes) (items_list (items_of (a ∷ bytes)) fine listed)
      by_fault (Some fault) refused e = absurd cc

  byte_has : (a : ℕ) (class : List ℕ) → class_of a ≡ Ok class → is_one_of class b ≡ true → (b == a) ≡ true
  byte_has a class e h = by_tests (is_one_of (codes "Xx") a) (is_one_of (codes "Zz") a) (is_one_of (codes "Nn") a) (is_bad a) e
    where
      by_tests : (x z n bad : Bool) → cond x (Ok (codes "0123456789")) (cond z (Ok (codes "123456789")) (cond n (Ok (codes "23456789")) (cond bad (Err BadByte) (Ok (a ∷ []))))) ≡ Ok class → (b == a) ≡ true
      by_tests true z n bad e = let same : class ≡ codes "0123456789" = cc in let there : is_one_of (codes "0123456789") b ≡ true = ap (λ c. is_one_of c b) (sym same) ∙ h in absurd (grind (arith, nat_tests))
      by_tests false true n bad e = let same : class ≡ codes "123456789" = cc in let there : is_one_of (codes "123456789") b ≡ true = ap (λ c. is_one_of c b) (sym same) ∙ h in absurd (grind (arith, nat_tests))
      by_tests false false true bad e = let same : class ≡ codes "23456789" = cc in let there : is_one_of (codes "23456789") b ≡ true = ap (λ c. is_one_of c b) (sym same) ∙ h in absurd (grind (arith, nat_tests))
      by_tests false false false true e = absurd cc
      by_tests false false false false e =
          let same : class ≡ a ∷ [] = cc in
          let there : is_one_of (a ∷ []) b ≡ true = ap (λ c. is_one_of c b) (sym same) ∙ h in
          either (b == a) false there (λ t. t) (λ t. absurd (true≢false (sym t)))

  piece_has : PatternPieceOf → Bool
  piece_has Dash = false
  piece_has (Wild tail) = false
  piece_has (Byte a) = b == a
  piece_has (Set bytes) = is_one_of bytes b
  piece_has Unclosed = false

  parts_have : (pieces : List PatternPieceOf) (parts : Parts) → parts_of pieces ≡ Ok parts → any_class parts.0 ≡ true → list_any piece_has pieces ≡ true
  unfolding any_class piece_has
  parts_have [] parts e h = let same : parts ≡ ([], End) = cc in absurd (true≢false (sym (sym (ap (λ (p : Parts). any_class p.0) same) ∙ h)))
  parts_have (Dash ∷ pieces) parts e h = parts_have pieces parts e h
  parts_have (Wild tail ∷ pieces) parts e h = by_test (list_all is_dash_piece pieces) e
    where
      by_test : (t : Bool) → cond t (Ok ([], tail)) (Err AfterWildcard) ≡ Ok parts → list_any piece_has (Wild tail ∷ pieces) ≡ true
      by_test true e = let same : parts ≡ ([], tail) = cc in absurd (true≢false (sym (sym (ap (λ (p : Parts). any_class p.0) same) ∙ h)))
      by_test false e = absurd cc
  parts_have (Byte a ∷ pieces) parts e h =
      let front = with_class-ok (class_of a) (parts_of pieces) parts e in
      let there : any_class (front.first ∷ front.after.0) ≡ true = ap any_class front.both ∙ h in
      either (is_one_of front.first b) (any_class front.after.0) there (λ t. or_left (b == a) (list_any piece_has pieces) (byte_has a front.first front.read t)) (λ t. or_right (b == a) (list_any piece_has pieces) (parts_have pieces front.after front.later t))
  parts_have (Set bytes ∷ pieces) parts e h =
      let front = with_class-ok (class_of_set bytes) (parts_of pieces) parts e in
      let there : any_class (front.first ∷ front.after.0) ≡ true = ap any_class front.both ∙ h in
      either (is_one_of front.first b) (any_class front.after.0) there (λ t. or_left (is_one_of bytes b) (list_any piece_has pieces) (set_has bytes front.first front.read t)) (λ t. or_right (is_one_of bytes b) (list_any piece_has pieces) (parts_have pieces front.after front.later t))
  parts_have (Unclosed ∷ pieces) parts e h = absurd cc

  in_front : (n : ℕ) (text : List ℕ) → is_one_of (take n text) b ≡ true → is_one_of text b ≡ true
  in_front zero [] e = e
  in_front (suc n) [] e = e
  in_front zero (a ∷ text) e = absurd (true≢false (sym e))
  in_front (suc n) (a ∷ text) e = either (b == a) (is_one_of (take n text) b) e (or_left (b == a) (is_one_of text b)) (λ h. or_right (b == a) (is_one_of text b) (in_front n text h))

  set_piece_in : (place : Option ℕ) (text : List ℕ) → piece_has (set_piece place text) ≡ true → is_one_of text b ≡ true
  unfolding piece_has
  set_piece_in None text e = absurd (true≢false (sym e))
  set_piece_in (Some n) text e = in_front n text e

  byte_piece_in : (a : ℕ) → piece_has (piece_of a) ≡ true → (b == a) ≡ true
  unfolding piece_has
  byte_piece_in a = by_tests (is_dash a) (a == 46) (a == 33)
    where
      by_tests : (dash dot bang : Bool) → piece_has (cond dash Dash (cond dot (Wild Dot) (cond bang (Wild Bang) (Byte a)))) ≡ true → (b == a) ≡ true
      by_tests true dot bang e = absurd (true≢false (sym e))
      by_tests false true bang e = absurd (true≢false (sym e))
      by_tests false false true e = absurd (true≢false (sym e))
      by_tests false false false e = e

  pieces_in : (n : ℕ) (text : List ℕ) → list_any piece_has (pieces_after n text) ≡ true → is_one_of text b ≡ true
  pieces_in zero [] e = e
  pieces_in (suc n) [] e = e
  pieces_in (suc n) (a ∷ text) e = or_right (b == a) (is_one_of text b) (pieces_in n text e)
  pieces_in zero (a ∷ text) e = by_test (λ n. pieces_in n text) (a == 91) refl
    where
      by_test : ((n : ℕ) → list_any piece_has (pieces_after n text) ≡ true → is_one_of text b ≡ true) → (t : Bool) → (a == 91) ≡ t → is_one_of (a ∷ text) b ≡ true
      by_test later true t =
          let n = set_size (position is_end text) text in
          let found : (piece_has (set_piece (position is_end text) text) || list_any piece_has (pieces_after n text)) ≡ true = sym (ap (list_any piece_has) (pieces_of-set a text t)) ∙ e in
          either (piece_has (set_piece (position is_end text) text)) (list_any piece_has (pieces_after n text)) found (λ h. or_right (b == a) (is_one_of text b) (set_piece_in (position is_end text) text h)) (λ h. or_right (b == a) (is_one_of text b) (later n h))
      by_test later false t =
          let found : (piece_has (piece_of a) || list_any piece_has (pieces_of text)) ≡ true = sym (ap (list_any piece_has) (pieces_of-byte a text t)) ∙ e in
          either (piece_has (piece_of a)) (list_any piece_has (pieces_of text)) found (λ h. or_left (b == a) (is_one_of text b) (byte_piece_in a h)) (λ h. or_right (b == a) (is_one_of text b) (later zero h))

  undashed_in : (text : List ℕ) → is_one_of (without_dashes text) b ≡ true → is_one_of text b ≡ true
  undashed_in [] e = e
  undashed_in (a ∷ text) e = by_test (undashed_in text) (is_dash a) e
    where
      by_test : (is_one_of (without_dashes text) b ≡ true → is_one_of text b ≡ true) → (t : Bool) → is_one_of (cond (not t) (a ∷ without_dashes text) (without_dashes text)) b ≡ true → is_one_of (a ∷ text) b ≡ true
      by_test later true e = or_right (b == a) (is_one_of text b) (later e)
      by_test later false e = either (b == a) (is_one_of (without_dashes text) b) e (or_left (b == a) (is_one_of text b)) (λ h. or_right (b == a) (is_one_of text b) (later h))

  name_spelled : (classes : List (List ℕ)) (tail : Tail) → is_one_of (spelling (Pattern classes tail)) b ≡ true → any_class classes ≡ true
  unfolding spelling
  name_spelled classes tail e =
      in_both (codes "_" ++ flat_map class_spelling classes) (tail_spelling tail) e
      (λ front. in_both (codes "_") (flat_map class_spelling classes) front (λ h. absurd (grind (arith, nat_tests))) (classes_spelled classes))
      (λ h. absurd (tail_spelled tail h))

  pattern_in : (text : List ℕ) (name : Meaning) → pattern_reading text ≡ Ok name → is_one_of (spelling name) b ≡ true → is_one_of text b ≡ true
  pattern_in text name e h = by_parts (parts_of (pieces_of text)) refl e
    where
      by_parts : (parts : Result Parts NameFault) → parts_of (pieces_of text) ≡ parts → (parts >>= pattern_of) ≡ Ok name → is_one_of text b ≡ true
      by_parts (Err fault) read e = absurd cc
      by_parts (Ok parts) read e =
          let same = pattern_of-ok parts.0 parts.1 name e in
          let there = name_spelled parts.0 parts.1 (ap (λ n. is_one_of (spelling n) b) same ∙ h) in
          pieces_in zero text (parts_have (pieces_of text) parts read there)

  plain_in : (text : List ℕ) (name : Meaning) → plain_of text ≡ Ok name → is_one_of (spelling name) b ≡ true → is_one_of text b ≡ true
  unfolding spelling
  plain_in text name e h = by_test (list_any is_bad text) e
    where
      by_test : (t : Bool) → cond t (Err BadByte) (Ok (Plain (without_dashes text))) ≡ Ok name → is_one_of text b ≡ true
      by_test true e = absurd cc
      by_test false e =
          let same : Plain (without_dashes text) ≡ name = cc in
          undashed_in text (ap (λ n. is_one_of (spelling n) b) same ∙ h)

  reading_in : (text : List ℕ) (name : Meaning) → reading_of (from_first text) ≡ Ok name → is_one_of (spelling name) b ≡ true → is_one_of text b ≡ true
  reading_in [] name e h = absurd cc
  reading_in (a ∷ text) name e h = by_test (reading_in text name) (is_dash a) e
    where
      by_pattern : (t : Bool) → cond t (pattern_reading text) (plain_of (a ∷ text)) ≡ Ok name → is_one_of (a ∷ text) b ≡ true
      by_pattern true e = or_right (b == a) (is_one_of text b) (pattern_in text name e h)
      by_pattern false e = plain_in (a ∷ text) name e h

      by_test : (reading_of (from_first text) ≡ Ok name → is_one_of (spelling name) b ≡ true → is_one_of text b ≡ true) → (t : Bool) → reading_of (cond t (from_first text) (a ∷ text)) ≡ Ok name → is_one_of (a ∷ text) b ≡ true
      by_test later true e = or_right (b == a) (is_one_of text b) (later e h)
      by_test later false e = by_pattern (a == 95) e

pub spells_cleanly : SpellsCleanly
unfolding meaning_of
spells_cleanly = record {
  fine = λ name named. spelling_fine name (name_means name named);
  kept = λ text name b read there foreign. (member text b).0 (reading_in b foreign text name read ((member (spelling name) b).1 there));
}
