-- The printed form of a text of bytes.
use Rattle.std.specs.Prelude.{ℕ, List, encode_utf8_all}
use Rattle.bstr.specs.Utf8.{lossy_chars}

-- the text as UTF-8, with U+FFFD for each piece that is not a character
abbrev pub printed_text : List ℕ → List ℕ
printed_text text = encode_utf8_all (lossy_chars text)
