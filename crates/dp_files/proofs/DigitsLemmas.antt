-- A priority of digits is a number alone.
use Rattle.std.proofs.Common.{◌≡◌, ℕ, ◌-◌, ◌^◌, ◌<◌, ◌≤◌, nat_le, Bool, true, false, ◌&&◌, cond, eqb, nat_eq, List, [], ◌∷◌, map, min, codes, Option, Some, None, refl, ap, sym, ◌∙◌, arith}
use Rattle.std.proofs.lemmas.Bool.Decides.{nat_tests}
use Rattle.std.specs.Char.{to_ascii_lowercase}
use Rattle.std.specs.Cmp.Lexicographic.{pointwise}
use Rattle.std.specs.List.{list_all}
use Rattle.std.specs.Option.{option_map}
use Rattle.dp_conf.specs.Cut.{cut_once}
use Rattle.dp_conf.specs.Numbers.{digits_number, is_digit, most_priority, number_of}
use Rattle.dp_conf.specs.Words.{same_word}
use Rattle.dp_conf.proofs.TextLemmas.{Avoids, cut_once-nowhere}
use Rattle.dp_files.proofs.LimitLemmas.{number_base_capped}
use Rattle.dp_files.specs.Priorities.{BaseOf, Number, Hint, Counted, WrittenBaseOf, WrittenPriorityOf, base_by, base_with_added, number_base, priority_by, priority_of, within_limit, written_of}

-- the priority of a base without an added number and without a label
abbrev pub alone : Option BaseOf → Option WrittenPriorityOf
alone base = option_map (λ base. record { written = Counted base None; label = None }) base

-- a digit is no byte below the digits
digit_not : (b byte : ℕ) → byte < 48 → is_digit b ≡ true → eqb b byte ≡ false
digit_not b byte low digit = grind (arith, nat_tests)

-- and its lower case is no letter
digit_not_h : (b : ℕ) → is_digit b ≡ true → nat_eq (to_ascii_lowercase b) 104 ≡ false
digit_not_h b digit = grind (arith, nat_tests)

both : (a b : Bool) → (a && b) ≡ true → (a ≡ true) × (b ≡ true)
both true b e = (refl, e)
both false b e = absurd cc

-- digits contain no such byte
digits_avoid : (byte : ℕ) (text : List ℕ) → byte < 48 → list_all is_digit text ≡ true → Avoids byte text
digits_avoid byte [] low all = tt
digits_avoid byte (b ∷ bs) low all =
    let parts = both (is_digit b) (list_all is_digit bs) all in
    (digit_not b byte low parts.0, digits_avoid byte bs low parts.1)

-- digits are not the word `hint`
digits_not_hint : (b : ℕ) (bs : List ℕ) → is_digit b ≡ true → same_word (b ∷ bs) (codes "hint") ≡ false
digits_not_hint b bs digit = ap (λ t. t && pointwise nat_eq (map to_ascii_lowercase bs) (map to_ascii_lowercase (codes "int"))) (digit_not_h b digit)

-- a text that is a number has only digits, and is not empty
record IsDigits (text : List ℕ) : Type 0 where
  no_opening : cut_once 40 text ≡ None
  no_plus : cut_once 43 text ≡ None
  no_hint : same_word text (codes "hint") ≡ false

is_digits : (text : List ℕ) (number : ℕ) → number_of text ≡ Some number → IsDigits text
is_digits [] number e = absurd cc
is_digits (b ∷ bs) number e = by (list_all is_digit (b ∷ bs)) refl e
  where
    by : (t : Bool) → list_all is_digit (b ∷ bs) ≡ t → cond t (Some (digits_number (b ∷ bs))) None ≡ Some number → IsDigits (b ∷ bs)
    by false all e = absurd cc
    by true all e = record {
      no_opening = cut_once-nowhere 40 (b ∷ bs) (digits_avoid 40 (b ∷ bs) (omega arith) all);
      no_plus = cut_once-nowhere 43 (b ∷ bs) (digits_avoid 43 (b ∷ bs) (omega arith) all);
      no_hint = digits_not_hint b bs (both (is_digit b) (list_all is_digit bs) all).0;
    }

written_of-digits : (text : List ℕ) (number : ℕ) → number_of text ≡ Some number → written_of text ≡ option_map (λ base. Counted base None) (number_base number)
unfolding written_of
written_of-digits text number e =
    let digits = is_digits text number e in
    ap (λ t. cond {A = Option WrittenBaseOf} t (Some Hint) (base_with_added text (cut_once 43 text))) digits.no_hint
    ∙ ap (base_with_added text) digits.no_plus
    ∙ ap (λ n. option_map (λ base. Counted base None) (base_by text n)) e

-- a priority of digits
pub priority_of-digits : (text : List ℕ) (number : ℕ) → number_of text ≡ Some number → priority_of text ≡ alone (number_base number)
unfolding priority_of
priority_of-digits text number e =
    ap (priority_by text) (is_digits text number e).no_opening
    ∙ ap (option_map (λ written. record { written = written; label = None })) (written_of-digits text number e)
    ∙ by (number_base number)
  where
    by : (base : Option BaseOf) → option_map (λ written. record { written = written; label = None }) (option_map (λ base. Counted base None) base) ≡ alone base
    by None = refl
    by (Some base) = refl

-- the priority of a number that was read, which is capped to 64 bits
pub capped_priority : (text : List ℕ) (number : ℕ) → option_map (λ n. min n (2 ^ 64 - 1)) (number_of text) ≡ Some number → alone (number_base number) ≡ priority_of text
capped_priority text number read = by (number_of text) refl read
  where
    by : (found : Option ℕ) → number_of text ≡ found → option_map (λ n. min n (2 ^ 64 - 1)) found ≡ Some number → alone (number_base number) ≡ priority_of text
    by None is read = absurd cc
    by (Some n) is read =
        let same : min n (2 ^ 64 - 1) ≡ number = cc in
        ap (λ k. alone (number_base k)) (sym same) ∙ (ap alone (number_base_capped n) ∙ sym (priority_of-digits text n is))

-- the priority of a number that was read, if a priority may be this number
pub plain_priority : (text : List ℕ) (number : ℕ) → option_map (λ n. min n (2 ^ 64 - 1)) (number_of text) ≡ Some number
    → (number ≡ 0 → ⊥) → number ≤ 2147483647
    → priority_of text ≡ Some (record { written = Counted (Number number) None; label = None })
plain_priority text number read some most =
    let other : eqb number 0 ≡ false = grind (arith, nat_tests) in
    let within : nat_le number most_priority ≡ true = grind (arith, nat_tests) in
    sym (capped_priority text number read)
    ∙ ap (λ t. alone (cond {A = Option BaseOf} t None (option_map Number (within_limit number)))) other
    ∙ ap (λ t. alone (option_map Number (cond {A = Option ℕ} t (Some number) None))) within
