-- Bytes of texts as sets.
use Rattle.std.proofs.Common.{◌≡◌, ℕ, zero, suc, ◌<◌, ◌≤◌, ◌==◌, ◌⊎◌, inl, inr, ◌||◌, ◌&&◌, not, Bool, true, false, List, [], ◌∷◌, refl, sym, ap, ◌∙◌, subst, if◌then◌else◌, true≢false, rules, arith}
use Rattle.std.proofs.lemmas.Bool.{cases_lt}
use borrow.Author.Tests.{eqb-true, eqb-false}
use Rattle.std.specs.List.{AllByRecursion}
use Rattle.std.specs.Prelude.{codes}
use Rattle.dp_machine.specs.Events.{is_digit}
use Rattle.dp_pieces.specs.Bytes.{Bytes}
use Rattle.dp_pieces.specs.Pieces.{bytes_in}

-- nothing is added
or-false : (a : Bool) → (a || false) ≡ a
or-false true = refl
or-false false = refl

-- no byte is left
pub text-end : (old all : Bytes) (left : List ℕ) → left ≡ [] → ((byte : ℕ) → (old byte || bytes_in left byte) ≡ all byte) → old ≡ all
text-end old all left is so_far = λ i byte. (sym (or-false (old byte)) ∙ (ap (λ ps. old byte || bytes_in ps byte) (sym is) ∙ so_far byte)) i

-- two sets agree on the bytes below a number
abbrev agree : ℕ → Bytes → Bytes → Bool
agree zero a b = true
agree (suc byte) a b = (if a byte then b byte else not (b byte)) && agree byte a b

-- one step of the comparison, and those after it
same : (a b : Bool) → (if a then b else not b) ≡ true → a ≡ b
same true true is = refl
same true false is = sym is
same false true is = is
same false false is = refl

both-left : (a b : Bool) → (a && b) ≡ true → a ≡ true
both-left true b is = refl
both-left false b is = is

both-right : (a b : Bool) → (a && b) ≡ true → b ≡ true
both-right true b is = is
both-right false b is = absurd (true≢false (sym is))

-- so each byte below it is in both or in none
agree-below : (count byte : ℕ) (a b : Bytes) → byte < count → agree count a b ≡ true → a byte ≡ b byte
agree-below zero byte a b less is = absurd (omega (arith, less))
agree-below (suc count) byte a b less is = by (byte == count) refl (λ below. agree-below count byte a b below (both-right (if a count then b count else not (b count)) (agree count a b) is))
  where
    by : (here : Bool) → (byte == count) ≡ here → (byte < count → a byte ≡ b byte) → a byte ≡ b byte
    by true here later = subst (λ n. a n ≡ b n) (sym (eqb-true byte count here)) (same (a count) (b count) (both-left (if a count then b count else not (b count)) (agree count a b) is))
    by false other later = let far = eqb-false byte count other in later (omega (arith, less, far))

-- none of these is a byte above all of them
apart : (n byte : ℕ) → n < byte → (n == byte) ≡ false
apart n byte less = grind (arith, less)

above : (texts : List ℕ) (byte : ℕ) → AllByRecursion (λ n. n < byte) texts → bytes_in texts byte ≡ false
above [] byte less = refl
above (n ∷ texts) byte less = (λ i. apart n byte less.0 i || above texts byte less.1 i)

-- no digit is above `D`
digit-above : (byte : ℕ) → 69 ≤ byte → is_digit byte ≡ false
digit-above byte much = grind (arith, much)

-- the telephone digits as a text
abbrev pub the_digits : List ℕ
the_digits = codes "0123456789ABCD*#"

-- what is below a number is below a greater one
all-below : (texts : List ℕ) (least byte : ℕ) → AllByRecursion (λ n. n < least) texts → least ≤ byte → AllByRecursion (λ n. n < byte) texts
all-below [] least byte below much = tt
all-below (n ∷ texts) least byte below much = (omega (arith, below.0, much), all-below texts least byte below.1 much)

are-low : AllByRecursion (λ n. n < 69) the_digits
are-low = search rules

-- its bytes are the digits
pub digits-are : (byte : ℕ) → bytes_in the_digits byte ≡ is_digit byte
digits-are byte = by (cases_lt byte 69)
  where
    by : (byte < 69) ⊎ (69 ≤ byte) → bytes_in the_digits byte ≡ is_digit byte
    by (inr much) = above the_digits byte (all-below the_digits 69 byte are-low much) ∙ sym (digit-above byte much)
    by (inl low) = agree-below 69 byte (bytes_in the_digits) is_digit low refl
