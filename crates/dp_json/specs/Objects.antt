-- Objects of JSON: a field is a name with a text or a number, an object is a list of fields, and each object stands on a line of its own.
use Rattle.std.specs.Prelude.{ℕ, List, [], ◌∷◌, ◌++◌, codes, decimal}
use Rattle.std.specs.List.{flat_map}
use Rattle.dp_json.specs.Strings.{string_text}

-- what a field holds
pub data FieldValue : Type 0 where
  text : List ℕ → FieldValue
  number : ℕ → FieldValue

-- a field of an object
pub record Field : Type 0 where
  pub name : List ℕ
  pub value : FieldValue

-- the field of a name with a text
abbrev pub text_field : List ℕ → List ℕ → Field
text_field name bytes = record { name = name; value = text bytes }

-- the field of a name with a number
abbrev pub number_field : List ℕ → ℕ → Field
number_field name count = record { name = name; value = number count }

-- the first field of each object: the word for what it tells of
abbrev pub type_field : List ℕ → Field
type_field word = text_field (codes "type") word

-- a value as it is written
abbrev pub value_text : FieldValue → List ℕ
value_text (text bytes) = string_text bytes
value_text (number count) = decimal count

-- the name of a field, and the sign behind it
abbrev pub name_text : List ℕ → List ℕ
name_text name = string_text name ++ codes ":"

-- a field as it is written
unfoldable pub field_text : Field → List ℕ
field_text field = name_text field.name ++ value_text field.value

-- the start of an object, up to its first field
unfoldable pub opening : Field → List ℕ
opening field = codes "{" ++ field_text field

-- a further field of an object
unfoldable pub more_text : Field → List ℕ
more_text field = codes "," ++ field_text field

-- the further fields of an object
abbrev pub fields_text : List Field → List ℕ
fields_text fields = flat_map more_text fields

-- the line of an object
unfoldable pub object_text : List Field → List ℕ
object_text [] = codes "{}\n"
object_text (field ∷ fields) = opening field ++ fields_text fields ++ codes "}\n"

-- the lines of objects
abbrev pub lines_text : List (List Field) → List ℕ
lines_text objects = flat_map object_text objects
