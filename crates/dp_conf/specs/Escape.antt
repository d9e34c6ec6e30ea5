-- Escaping a text, so that a line with it says the text.
use Rattle.std.specs.Prelude.{ℕ, ◌==◌, List, [], ◌∷◌, if◌then◌else◌}
use Rattle.std.specs.List.{flat_map}
use Rattle.std.specs.Str.{byte}

-- a `\` before a semicolon, and any other byte unchanged
abbrev pub escaped_byte : ℕ → List ℕ
escaped_byte b = if b == byte ";" then byte "\\" ∷ b ∷ [] else b ∷ []

-- the text with each byte escaped
abbrev pub escape_text : List ℕ → List ℕ
escape_text text = flat_map escaped_byte text
