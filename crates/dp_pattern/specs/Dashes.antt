-- Dashes make a text easier to read. They are ignored in names outside sets, and in dialled text.
use Rattle.std.specs.Prelude.{ℕ, Bool, not, ◌==◌, List, [], ◌∷◌, if◌then◌else◌}
use Rattle.std.specs.List.{filter}
use Rattle.std.specs.Str.{byte}

abbrev pub is_dash : ℕ → Bool
is_dash b = b == byte "-"

-- the text without its dashes
abbrev pub without_dashes : List ℕ → List ℕ
without_dashes text = filter (λ b. not (is_dash b)) text

-- the text from its first byte other than a dash
abbrev pub from_first : List ℕ → List ℕ
from_first [] = []
from_first (b ∷ text) = if is_dash b then from_first text else b ∷ text
