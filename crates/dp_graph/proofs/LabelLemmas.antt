-- The characters of a text, if it is UTF-8 or not.
use Rattle.std.proofs.Common.{◌≡◌, ℕ, Bool, true, false, cond, List, refl, ap}
use Rattle.std.specs.Str.{IsUtf8, chars, is_utf8}
use Rattle.std.proofs.lemmas.Str.{IsUtf8-from_is_utf8, is_utf8-from_IsUtf8}
use Rattle.dp_graph.specs.Labels.{characters}

pub characters-utf8 : (text : List ℕ) → IsUtf8 text → characters text ≡ chars text
characters-utf8 text is = ap (λ t. cond t (chars text) text) (is_utf8-from_IsUtf8 text is)

pub characters-latin : (text : List ℕ) → (IsUtf8 text → ⊥) → characters text ≡ text
characters-latin text not_utf8 = by (is_utf8 text) refl where
  by : (t : Bool) → is_utf8 text ≡ t → cond t (chars text) text ≡ text
  by true is = absurd (not_utf8 (IsUtf8-from_is_utf8 text is))
  by false is = refl
