-- Whether a text is UTF-8, by what a reader of UTF-8 says.
use Rattle.std.proofs.Common.{◌≡◌, ℕ, Bool, true, false, List, refl}
use Rattle.std.specs.Str.{IsUtf8, is_utf8}
use Rattle.std.proofs.lemmas.Str.{IsUtf8-from_is_utf8}

pub not_utf8 : (text : List ℕ) → (IsUtf8 text → ⊥) → false ≡ is_utf8 text
not_utf8 text never = by (is_utf8 text) refl where
  by : (t : Bool) → is_utf8 text ≡ t → false ≡ t
  by true is = absurd (never (IsUtf8-from_is_utf8 text is))
  by false is = refl
