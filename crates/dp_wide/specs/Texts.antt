-- Texts that are cut into fields, and texts that are reduced to some of their bytes.
use Rattle.std.specs.Prelude.{ℕ, Bool, true, false, ◌&&◌, ◌==◌, nat_le, List, [], ◌∷◌, length, map, filter, Option, Some, None, is_some, if◌then◌else◌}
use Rattle.std.specs.List.{slice_split, list_all, list_any, enumerate_from, join_with_byte}
use Rattle.std.specs.Option.{option_map, option_map_or}
use Rattle.dp_conf.specs.Cut.{begins_with, cut_once}
use Rattle.dp_conf.specs.Numbers.{number_of}
use Rattle.dp_wide.specs.declared.texts.ByteRange.{ByteRange}
use Rattle.dp_wide.specs.declared.texts.FieldRange.{FieldRange}

-- the byte at which a value is cut: the first byte of the text, where `\,` is a comma and an empty text means `-`
abbrev pub delimiter_of : List ℕ → ℕ
delimiter_of [] = 45
delimiter_of (b ∷ bs) = if b == 92 && begins_with 44 bs then 44 else b

-- the parts of a text between these bytes
abbrev pub parts_of : ℕ → List ℕ → List (List ℕ)
parts_of delimiter text = slice_split (λ byte. byte == delimiter) text

-- the number of fields of a value; an empty value has none
abbrev pub field_count : ℕ → List ℕ → ℕ
field_count delimiter value = if length value == 0 then 0 else length (parts_of delimiter value)

-- the first field of a range; an empty text means the first field of all
abbrev pub first_of : List ℕ → Option ℕ
first_of [] = Some 1
first_of (b ∷ bs) = number_of (b ∷ bs)

-- the last field of a range, if it has one; an empty text means none
abbrev pub last_of : List ℕ → Option (Option ℕ)
last_of [] = Some None
last_of (b ∷ bs) = option_map (λ number. Some number) (number_of (b ∷ bs))

-- the fields from a first one to a last one, if both are valid
abbrev pub range_from : Option ℕ → Option (Option ℕ) → Option FieldRange
range_from None last = None
range_from (Some first) None = None
range_from (Some first) (Some last) = Some (record { first = first; last = last })

-- the fields between two ends, one of which may be missing
abbrev pub range_between : List ℕ → List ℕ → Option FieldRange
range_between first last =
    if length first == 0 && length last == 0 then None else range_from (first_of first) (last_of last)

-- one field alone, or the fields between two ends
abbrev pub range_of_cut : List ℕ → Option (List ℕ × List ℕ) → Option FieldRange
range_of_cut text None = option_map (λ number. record { first = number; last = Some number }) (number_of text)
range_of_cut text (Some cut) = range_between cut.0 cut.1

-- the fields that `3`, `2-4`, `-3` or `2-` names; None for any other text
abbrev pub range_of : List ℕ → Option FieldRange
range_of text = range_of_cut text (cut_once 45 text)

-- whether a range has the field with this number
abbrev pub has_field : ℕ → FieldRange → Bool
has_field number range = nat_le range.first number && option_map_or (λ last. nat_le number last) range.last true

-- whether a text names a range that has the field with this number
abbrev pub writes_field : ℕ → List ℕ → Bool
writes_field number text = option_map_or (has_field number) (range_of text) false

-- whether one of the ranges between `&` has the field with this number
abbrev pub is_chosen : List ℕ → ℕ → Bool
is_chosen fields number = list_any (writes_field number) (parts_of 38 fields)

-- whether every part between `&` is a range
abbrev pub are_ranges : List ℕ → Bool
are_ranges fields = list_all (λ part. is_some (range_of part)) (parts_of 38 fields)

-- the chosen fields, counted from a number
abbrev pub chosen_from : ℕ → List ℕ → List (List ℕ) → List (List ℕ)
chosen_from number fields values =
    map (λ field. field.1) (filter (λ field. is_chosen fields field.0) (enumerate_from number values))

-- the chosen fields in their own order, with the byte between them; empty if the choice is no list of ranges
unfoldable pub cut_fields : List ℕ → ℕ → List ℕ → List ℕ
cut_fields value delimiter fields =
    if are_ranges fields then join_with_byte delimiter (chosen_from 1 fields (parts_of delimiter value)) else []

-- the ranges of bytes in a set: `a-b`, or one byte alone; a `-` at either end is such a byte
abbrev pub byte_ranges : List ℕ → List ByteRange
byte_ranges [] = []
byte_ranges (a ∷ []) = record { first = a; last = a } ∷ []
byte_ranges (a ∷ d ∷ []) = record { first = a; last = a } ∷ record { first = d; last = d } ∷ []
byte_ranges (a ∷ d ∷ b ∷ rest) =
    if d == 45 then record { first = a; last = b } ∷ byte_ranges rest else record { first = a; last = a } ∷ byte_ranges (d ∷ b ∷ rest)

-- whether a byte is in a range, including both ends
abbrev pub has_byte : ℕ → ByteRange → Bool
has_byte byte range = nat_le range.first byte && nat_le byte range.last

-- the bytes of a text that are in a set
abbrev pub kept_of : List ℕ → List ℕ → List ℕ
kept_of set text = filter (λ byte. list_any (has_byte byte) (byte_ranges set)) text
