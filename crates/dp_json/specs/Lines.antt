-- The lines of a text.
use Rattle.std.specs.Prelude.{ℕ, ◌+◌, Bool, true, false, ◌==◌, List, [], ◌∷◌, if◌then◌else◌}

-- whether nothing is left of a text
abbrev pub is_end : List ℕ → Bool
is_end [] = true
is_end (byte ∷ rest) = false

-- whether a text has one line feed, at its end
abbrev pub is_line : List ℕ → Bool
is_line [] = false
is_line (byte ∷ rest) = if byte == 10 then is_end rest else is_line rest

-- how many line feeds a text has
abbrev pub line_count : List ℕ → ℕ
line_count [] = 0
line_count (byte ∷ rest) = if byte == 10 then 1 + line_count rest else line_count rest
