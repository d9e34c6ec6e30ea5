-- A priority that is a number is not one of the words for priorities, and has no label.
use Rattle.std.proofs.Common.{length, ◌≡◌, ℕ, Bool, true, false, cond, ◌==◌, ◌&&◌, ◌||◌, nat_le, List, [], ◌∷◌, codes, Some, None, refl, ap, sym, ◌∙◌, arith, min, ◌-◌, ◌^◌}
use Rattle.std.specs.List.{list_all, list_any, position_or_len}
use Rattle.std.specs.Option.{option_map}
use Rattle.std.specs.Str.{byte}
use Rattle.std.proofs.lemmas.Bool.Decides.{nat_tests}
use Rattle.dp_conf.specs.Cut.{cut_once}
use Rattle.dp_conf.specs.Numbers.{is_digit, digits_number, most_priority, number_of}
use Rattle.dp_conf.specs.Words.{same_text}
use Rattle.dp_plan.specs.EntryLine.{without_label, written_number, written_of, written_priority}

-- a digit is not a byte above the digits
digit-apart : (b other : ℕ) → is_digit b ≡ true → nat_le other 57 ≡ false → (b == other) ≡ false
digit-apart b other digit above = by (nat_le 48 b) (nat_le b 57) refl digit
  where
    by : (low high : Bool) → nat_le b 57 ≡ high → (low && high) ≡ true → (b == other) ≡ false
    by true true within both = grind (arith, nat_tests)
    by true false within both = absurd cc
    by false high within both = absurd cc

-- nor a plus
digit-no_plus : (b : ℕ) → is_digit b ≡ true → (b == byte "+") ≡ false
digit-no_plus b digit = by (nat_le 48 b) (nat_le b 57) refl digit
  where
    by : (low high : Bool) → nat_le 48 b ≡ low → (low && high) ≡ true → (b == byte "+") ≡ false
    by true high within both = grind (arith, nat_tests)
    by false high within both = absurd cc

-- digits contain no plus
no_plus : (text : List ℕ) → list_all is_digit text ≡ true → list_any (λ b. b == byte "+") text ≡ false
no_plus [] all = refl
no_plus (b ∷ bs) all = by (is_digit b) refl all (λ rest. no_plus bs rest)
  where
    by : (t : Bool) → is_digit b ≡ t → (t && list_all is_digit bs) ≡ true → (list_all is_digit bs ≡ true → list_any (λ b. b == byte "+") bs ≡ false)
        → ((b == byte "+") || list_any (λ b. b == byte "+") bs) ≡ false
    by true digit all later = ap (λ (first : Bool). first || list_any (λ b. b == byte "+") bs) (digit-no_plus b digit) ∙ later all
    by false digit all later = absurd cc

-- a text that begins with a digit is not a word
no_word : (b : ℕ) (bs : List ℕ) (other : ℕ) (rest : List ℕ) → is_digit b ≡ true → nat_le other 57 ≡ false → same_text (b ∷ bs) (other ∷ rest) ≡ false
no_word b bs other rest digit above = ap (λ (first : Bool). first && same_text bs rest) (digit-apart b other digit above)

-- a number above the greatest of 64 bits is written like the greatest
written_at_limit : (number : ℕ) → written_number (Some (min number (2 ^ 64 - 1))) ≡ written_number (Some number)
written_at_limit number = by (nat_le number (2 ^ 64 - 1)) refl
  where
    by : (t : Bool) → nat_le number (2 ^ 64 - 1) ≡ t → written_number (Some (min number (2 ^ 64 - 1))) ≡ written_number (Some number)
    by true within =
        let same : min number (2 ^ 64 - 1) ≡ number = grind (arith, nat_tests) in
        ap (λ (n : ℕ). written_number (Some n)) same
    by false within =
        let most : min number (2 ^ 64 - 1) ≡ 2 ^ 64 - 1 = grind (arith, nat_tests) in
        let zero : (number == 0) ≡ false = grind (arith, nat_tests) in
        let great : nat_le number most_priority ≡ false = grind (arith, nat_tests) in
        ap (λ (n : ℕ). written_number (Some n)) most ∙ cc

-- the written priority of a number
pub number_as_written : (text : List ℕ) (number : ℕ) → option_map (λ n. min n (2 ^ 64 - 1)) (number_of text) ≡ Some number → written_of text ≡ written_number (Some number)
number_as_written [] number read = absurd cc
number_as_written (b ∷ bs) number read = by (list_all is_digit (b ∷ bs)) refl read
  where
    exact : ℕ
    exact = digits_number (b ∷ bs)

    first : (t : Bool) → is_digit b ≡ t → (t && list_all is_digit bs) ≡ true → is_digit b ≡ true
    first true digit all = digit
    first false digit all = absurd cc

    words : list_all is_digit (b ∷ bs) ≡ true → written_of (b ∷ bs) ≡ written_number (Some exact)
    words all =
        let digit : is_digit b ≡ true = first (is_digit b) refl all in
        let hint : same_text (b ∷ bs) (codes "hint") ≡ false = no_word b bs (byte "h") (codes "int") digit refl in
        let next : same_text (b ∷ bs) (codes "next") ≡ false = no_word b bs (byte "n") (codes "ext") digit refl in
        let s : same_text (b ∷ bs) (codes "s") ≡ false = no_word b bs (byte "s") [] digit refl in
        let same : same_text (b ∷ bs) (codes "same") ≡ false = no_word b bs (byte "s") (codes "ame") digit refl in
        let n : same_text (b ∷ bs) (codes "n") ≡ false = no_word b bs (byte "n") [] digit refl in
        let plus : list_any (λ b. b == byte "+") (b ∷ bs) ≡ false = no_plus (b ∷ bs) all in
        cc

    by : (t : Bool) → list_all is_digit (b ∷ bs) ≡ t → option_map (λ n. min n (2 ^ 64 - 1)) (cond t (Some exact) None) ≡ Some number → written_of (b ∷ bs) ≡ written_number (Some number)
    by false all read = absurd cc
    by true all read =
        let is : min exact (2 ^ 64 - 1) ≡ number = cc in
        words all ∙ (sym (written_at_limit exact) ∙ ap (λ (n : ℕ). written_number (Some n)) is)

-- a digit is not a parenthesis
digit-no_parenthesis : (b : ℕ) → is_digit b ≡ true → (b == byte "(") ≡ false
digit-no_parenthesis b digit = by (nat_le 48 b) (nat_le b 57) refl digit
  where
    by : (low high : Bool) → nat_le 48 b ≡ low → (low && high) ≡ true → (b == byte "(") ≡ false
    by true high within both = grind (arith, nat_tests)
    by false high within both = absurd cc

-- digits contain no parenthesis
no_parenthesis : (text : List ℕ) → list_all is_digit text ≡ true → position_or_len (λ b. b == byte "(") text ≡ length text
no_parenthesis [] all = refl
no_parenthesis (b ∷ bs) all = by (is_digit b) refl all (λ rest. no_parenthesis bs rest)
  where
    by : (t : Bool) → is_digit b ≡ t → (t && list_all is_digit bs) ≡ true → (list_all is_digit bs ≡ true → position_or_len (λ b. b == byte "(") bs ≡ length bs)
        → position_or_len (λ b. b == byte "(") (b ∷ bs) ≡ length (b ∷ bs)
    by true digit all later = rw (digit-no_parenthesis b digit) (let same = later all in omega arith)
    by false digit all later = absurd cc

-- a number has no label after it
number_uncut : (text : List ℕ) → list_all is_digit text ≡ true → cut_once (byte "(") text ≡ None
number_uncut text all = rw (no_parenthesis text all) (grind (arith, nat_tests))

-- a number without anything else is a priority without a label
pub number_alone : (text : List ℕ) (number : ℕ) → option_map (λ n. min n (2 ^ 64 - 1)) (number_of text) ≡ Some number
    → written_priority text ≡ without_label (written_number (Some number))
unfolding written_priority
number_alone [] number read = absurd cc
number_alone (b ∷ bs) number read = by (list_all is_digit (b ∷ bs)) refl read
  where
    by : (t : Bool) → list_all is_digit (b ∷ bs) ≡ t → option_map (λ n. min n (2 ^ 64 - 1)) (cond t (Some (digits_number (b ∷ bs))) None) ≡ Some number
        → written_priority (b ∷ bs) ≡ without_label (written_number (Some number))
    by false all digits = absurd cc
    by true all digits =
        let uncut = number_uncut (b ∷ bs) all in
        let written = number_as_written (b ∷ bs) number read in
        rw uncut (rw written refl)
