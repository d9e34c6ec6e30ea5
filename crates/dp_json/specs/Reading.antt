-- What a reader of JSON has for an object: the same fields in the same order.
use Rattle.std.specs.Prelude.{ℕ, ◌<◌, ◌^◌, List, [], ◌∷◌, decimal, if◌then◌else◌}
use Rattle.std.specs.Char.{encode_utf8}
use Rattle.std.specs.List.{AllByRecursion, flat_map}
use Rattle.std.specs.Str.{is_utf8}
use Rattle.json.specs.Json as json
use Rattle.dp_json.specs.Objects.{Field, FieldValue, text, number}

-- what a reader has for a text, in UTF-8: the text itself or, if it is not UTF-8, its bytes as characters of Latin-1
abbrev pub text_read : List ℕ → List ℕ
text_read bytes = if is_utf8 bytes then bytes else flat_map encode_utf8 bytes

-- what it has for a value; it keeps a number as it is written
abbrev pub value_read : FieldValue → json.Json
value_read (text bytes) = json.string (text_read bytes)
value_read (number count) = json.number (decimal count)

-- what it has for the fields of an object
abbrev pub members_read : List Field → json.Members
members_read [] = json.no_members
members_read (field ∷ fields) = json.member (text_read field.name) (value_read field.value) (members_read fields)

-- the text has bytes alone
abbrev pub IsText : List ℕ → Type 0
IsText bytes = AllByRecursion (λ byte. byte < 256) bytes

-- the value is one that fields have: a text, or a number of 64 bits
abbrev pub IsValue : FieldValue → Type 0
IsValue (text bytes) = IsText bytes
IsValue (number count) = count < 2 ^ 64

-- the field has a text as its name, and such a value
abbrev pub IsField : Field → Type 0
IsField field = IsText field.name × IsValue field.value
