-- How a text is written as a string of JSON.
use Rattle.std.specs.Prelude.{ℕ, ◌/◌, ◌%◌, Bool, ◌&&◌, ◌||◌, ◌==◌, nat_le, nat_lt, List, [], ◌∷◌, ◌++◌, codes, if◌then◌else◌}
use Rattle.std.specs.Char.{digit_char}
use Rattle.std.specs.List.{flat_map}
use Rattle.std.specs.Str.{is_utf8}

-- a byte by its number, `\u00XX`
abbrev pub code_text : ℕ → List ℕ
code_text byte = codes "\\u00" ++ digit_char (byte / 16) ∷ digit_char (byte % 16) ∷ []

-- whether a byte is `"` or `\`, which stand behind a `\`
abbrev pub is_marked : ℕ → Bool
is_marked byte = byte == 34 || byte == 92

-- whether a byte stands for itself, given whether its text is UTF-8: those of ASCII do, except control characters, and in UTF-8 those
-- behind ASCII
abbrev pub is_plain : Bool → ℕ → Bool
is_plain utf8 byte = nat_le 32 byte && (nat_lt byte 127 || (utf8 && nat_lt 127 byte))

-- a byte in a string, given whether its text is UTF-8
unfoldable pub byte_text : Bool → ℕ → List ℕ
byte_text utf8 byte =
    if is_marked byte then 92 ∷ byte ∷ []
    else if is_plain utf8 byte then byte ∷ []
    else code_text byte

-- the bytes of a text in a string; the bytes of a text that is not UTF-8 count as characters of Latin-1
abbrev pub bytes_text : Bool → List ℕ → List ℕ
bytes_text utf8 text = flat_map (byte_text utf8) text

-- a text as a string
unfoldable pub string_text : List ℕ → List ℕ
string_text text = codes "\"" ++ bytes_text (is_utf8 text) text ++ codes "\""
