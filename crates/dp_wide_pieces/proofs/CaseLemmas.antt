-- Letters in either case.
use Rattle.std.proofs.Common.{◌≡◌, ℕ, ◌+◌, ◌-◌, ◌<◌, ◌≤◌, ◌==◌, ◌&&◌, ◌||◌, Bool, true, false, List, [], ◌∷◌, map, refl, sym, ◌∙◌, subst, arith, if◌then◌else◌}
use Rattle.std.proofs.lemmas.Bool.{ltb-true, ltb-false}
use Rattle.std.proofs.lemmas.Bool.Decides.{nat_tests}
use Rattle.std.specs.Char.{to_ascii_lowercase, to_ascii_uppercase}
use Rattle.std.specs.Prelude.{nat_le, nat_lt}
use borrow.Author.Tests.{eqb-true, eqb-false}
use Rattle.dp_pieces.specs.Bytes.{Bytes, Within}
use Rattle.dp_pieces.proofs.WithinLemmas.{either-left, either-right}
use Rattle.dp_wide_pieces.specs.FunctionBytes.{capitals, either_case, other_case, small_letters}

or-nothing : (a : Bool) → (a || false) ≡ a
or-nothing true = refl
or-nothing false = refl

or-without : (a b : Bool) → ((a || false) || b) ≡ (a || b)
or-without true b = refl
or-without false b = refl

both-hold : (a b : Bool) → a ≡ true → b ≡ true → (a && b) ≡ true
both-hold a b x y = (λ i. x i && y i)

below-next : (b byte : ℕ) → (b ≡ byte → ⊥) → nat_lt b byte ≡ nat_lt b (byte + 1)
below-next b byte differ = grind (arith, nat_tests)

-- a set so far, given the next byte
pub case-next : (has old new : Bool) (b byte : ℕ) (set : Bytes) → new ≡ (old || (b == byte && other_case set byte))
    → old ≡ (has || (nat_lt b byte && other_case set b)) → new ≡ (has || (nat_lt b (byte + 1) && other_case set b))
case-next has old new b byte set is so_far = by (b == byte) refl
  where
    by : (here : Bool) → (b == byte) ≡ here → new ≡ (has || (nat_lt b (byte + 1) && other_case set b))
    by true e =
        let same : b ≡ byte = eqb-true b byte e in
        let before : nat_lt b byte ≡ false = grind (arith, nat_tests) in
        let within : nat_lt b (byte + 1) ≡ true = grind (arith, nat_tests) in
        is ∙ ((λ i. so_far i || (e i && other_case set byte))
        ∙ ((λ i. (has || (before i && other_case set b)) || other_case set byte)
        ∙ (or-without has (other_case set byte) ∙ (λ i. has || (sym within i && other_case set (sym same i))))))
    by false e =
        is ∙ ((λ i. so_far i || (e i && other_case set byte))
        ∙ (or-nothing (has || (nat_lt b byte && other_case set b)) ∙ (λ i. has || (below-next b byte (eqb-false b byte e) i && other_case set b))))

-- a letter of the set in upper case
upper-in : (set : Bytes) (b : ℕ) → set b ≡ true → either_case set (to_ascii_uppercase b) ≡ true
upper-in set b is = by (nat_lt b 97) (nat_lt b 123) refl refl
  where
    same : either_case set b ≡ true
    same = either-left (set b) (other_case set b) is

    by : (before within : Bool) → nat_lt b 97 ≡ before → nat_lt b 123 ≡ within → either_case set (if before then b else (if within then b - 32 else b)) ≡ true
    by true within x y = same
    by false false x y = same
    by false true x y =
        let from : 97 ≤ b = ltb-false b 97 x in
        let to : b < 123 = ltb-true b 123 y in
        let first : nat_le 65 (b - 32) ≡ true = grind (arith, nat_tests) in
        let last : nat_le (b - 32) 90 ≡ true = grind (arith, nat_tests) in
        let back : b ≡ b - 32 + 32 = omega arith in
        either-right (set (b - 32)) (other_case set (b - 32)) (either-left (capitals (b - 32) && set (b - 32 + 32)) (small_letters (b - 32) && set (b - 32 - 32))
        (both-hold (capitals (b - 32)) (set (b - 32 + 32)) (both-hold (nat_le 65 (b - 32)) (nat_le (b - 32) 90) first last) (subst (λ n. set n ≡ true) back is)))

-- and in lower case
lower-in : (set : Bytes) (b : ℕ) → set b ≡ true → either_case set (to_ascii_lowercase b) ≡ true
lower-in set b is = by (nat_lt b 65) (nat_lt b 91) refl refl
  where
    same : either_case set b ≡ true
    same = either-left (set b) (other_case set b) is

    by : (before within : Bool) → nat_lt b 65 ≡ before → nat_lt b 91 ≡ within → either_case set (if before then b else (if within then b + 32 else b)) ≡ true
    by true within x y = same
    by false false x y = same
    by false true x y =
        let from : 65 ≤ b = ltb-false b 65 x in
        let to : b < 91 = ltb-true b 91 y in
        let first : nat_le 97 (b + 32) ≡ true = grind (arith, nat_tests) in
        let last : nat_le (b + 32) 122 ≡ true = grind (arith, nat_tests) in
        let back : b ≡ b + 32 - 32 = omega arith in
        either-right (set (b + 32)) (other_case set (b + 32)) (either-right (capitals (b + 32) && set (b + 32 + 32)) (small_letters (b + 32) && set (b + 32 - 32))
        (both-hold (small_letters (b + 32)) (set (b + 32 - 32)) (both-hold (nat_le 97 (b + 32)) (nat_le (b + 32) 122) first last) (subst (λ n. set n ≡ true) back is)))

-- a text in upper case, and in lower case
pub within-upper : (set : Bytes) (text : List ℕ) → Within set text → Within (either_case set) (map to_ascii_uppercase text)
within-upper set [] is = tt
within-upper set (b ∷ text) is = (upper-in set b is.0, within-upper set text is.1)

pub within-lower : (set : Bytes) (text : List ℕ) → Within set text → Within (either_case set) (map to_ascii_lowercase text)
within-lower set [] is = tt
within-lower set (b ∷ text) is = (lower-in set b is.0, within-lower set text is.1)
