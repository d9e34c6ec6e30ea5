-- Texts and their dashes.
use Rattle.std.proofs.Common.{◌≡◌, ℕ, Bool, true, false, List, [], ◌∷◌, length, ◌≤◌, arith, refl, sym, ap, ◌∙◌}
use Rattle.dp_pattern.specs.Dashes.{is_dash, without_dashes, from_first}

-- dashes at the start make no difference
pub without_dashes-from_first : (text : List ℕ) → without_dashes (from_first text) ≡ without_dashes text
without_dashes-from_first [] = refl
without_dashes-from_first (b ∷ text) = by_test (without_dashes-from_first text) (is_dash b) refl
  where
    by_test : without_dashes (from_first text) ≡ without_dashes text → (t : Bool) → is_dash b ≡ t → without_dashes (from_first (b ∷ text)) ≡ without_dashes (b ∷ text)
    by_test after true e = rw e after
    by_test after false e = rw e (rw e refl)

-- the text does not begin with a dash
pub from_first-begins : (text rest : List ℕ) (b : ℕ) → from_first text ≡ b ∷ rest → without_dashes text ≡ b ∷ without_dashes rest
from_first-begins [] rest b e = cc
from_first-begins (a ∷ text) rest b e = by_test (from_first-begins text rest b) (is_dash a) refl
  where
    by_test : (from_first text ≡ b ∷ rest → without_dashes text ≡ b ∷ without_dashes rest) → (t : Bool) → is_dash a ≡ t → without_dashes (a ∷ text) ≡ b ∷ without_dashes rest
    by_test after true t = rw t (after (rw t at e))
    by_test after false t = rw t (let same : a ∷ text ≡ b ∷ rest = rw t at e in cc)

pub from_first-ends : (front text : List ℕ) → front ≡ from_first text → length front ≡ 0 → without_dashes text ≡ []
from_first-ends [] text e none = sym (without_dashes-from_first text) ∙ ap without_dashes (sym e)
from_first-ends (b ∷ front) text e none = absurd (omega arith)

pub length-from_first : (text : List ℕ) → length (from_first text) ≤ length text
length-from_first [] = omega arith
length-from_first (b ∷ text) = by_test (length-from_first text) (is_dash b) refl
  where
    by_test : length (from_first text) ≤ length text → (t : Bool) → is_dash b ≡ t → length (from_first (b ∷ text)) ≤ length (b ∷ text)
    by_test after true e = rw e (omega arith)
    by_test after false e = rw e (omega arith)
