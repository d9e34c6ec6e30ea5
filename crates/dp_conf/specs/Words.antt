-- Texts compared byte by byte, and words compared without regard to ASCII case.
use Rattle.std.specs.Prelude.{ℕ, Bool, List, map, nat_eq}
use Rattle.std.specs.Cmp.Lexicographic.{pointwise}
use Rattle.std.specs.Char.{to_ascii_lowercase}

-- two texts have the same bytes
abbrev pub same_text : List ℕ → List ℕ → Bool
same_text = pointwise nat_eq

-- two words are the same except for the case of ASCII letters
abbrev pub same_word : List ℕ → List ℕ → Bool
same_word a b = pointwise nat_eq (map to_ascii_lowercase a) (map to_ascii_lowercase b)
