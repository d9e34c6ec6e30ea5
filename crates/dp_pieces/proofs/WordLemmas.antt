-- Sets given by the words of a class.
use Rattle.std.proofs.Common.{◌≡◌, ℕ, zero, suc, ◌<◌, ◌≤◌, ◌/◌, ◌%◌, ◌==◌, Bool, true, false, nat_lt, List, [], ◌∷◌, length, slice_index, refl, sym, ap, ◌∙◌, arith}
use Rattle.std.proofs.lemmas.Bool.Decides.{nat_tests}
use Rattle.std.proofs.lemmas.Nat.Bits.{bit_at-zero}
use Rattle.std.specs.Int.{bit_at}
use Rattle.dp_pattern.specs.Classes.{has_bit}
use Rattle.dp_pattern.specs.Name.{is_one_of}
use Rattle.dp_pieces.specs.Pieces.{bytes_in}
use Rattle.dp_pieces.specs.Sets.{set_by}
use Rattle.dp_pieces.specs.ShapeSteps.{AreBytes}
use Rattle.dp_pieces.proofs.TakesLemmas.{bytes_in_is_one_of}

-- there are no bits after the words
no-word : (words : List ℕ) (k : ℕ) → length words ≤ k → slice_index words k ≡ 0
no-word [] k few = refl
no-word (word ∷ words) zero few = absurd (omega (arith, few))
no-word (word ∷ words) (suc k) few = no-word words k (omega (arith, few))

pub class-set : (words class : List ℕ) → length words ≡ 4 → ((b : ℕ) → b < 256 → has_bit words b ≡ is_one_of class b) → AreBytes class
    → (b : ℕ) → set_by words b ≡ bytes_in class b
unfolding set_by
class-set words class long bits bytes b = by (nat_lt b 256) refl
  where
    by : (below : Bool) → nat_lt b 256 ≡ below → set_by words b ≡ bytes_in class b
    by true is = bits b (grind (arith, nat_tests)) ∙ sym (bytes_in_is_one_of class b)
    by false is =
        let above : 256 ≤ b = grind (arith, nat_tests) in
        ap (λ word. bit_at word (b % 64) == 1) (no-word words (b / 64) (omega (arith, long, above)))
        ∙ (ap (λ bit. bit == 1) (bit_at-zero (b % 64)) ∙ sym (bytes b above))
