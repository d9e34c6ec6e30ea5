-- Groups: `${` up to its `}` and `$[` up to its `]`, with groups and plain bytes inside and between them.
use Rattle.std.specs.Prelude.{◌≡◌, ◌≢◌, ℕ, suc, ◌==◌, List, [], ◌∷◌, ◌++◌, Option, Some, None, if◌then◌else◌, max}
use Rattle.dp_conf.specs.declared.groups.GroupKind.{GroupKind}
use Rattle.dp_conf.specs.declared.groups.GroupKind.TheVariants.{Braces, Brackets}

-- the byte after the `$` that opens a group
abbrev pub opener : GroupKind → ℕ
opener Braces = 123
opener Brackets = 91

-- the byte that ends a group
abbrev pub closer : GroupKind → ℕ
closer Braces = 125
closer Brackets = 93

-- the kind of group that a `$` opens if this byte comes after it
abbrev pub kind_of : ℕ → Option GroupKind
kind_of byte = if byte == 123 then Some Braces else (if byte == 91 then Some Brackets else None)

-- the kind of group that a byte opens, given the bytes after it
abbrev pub opening : ℕ → List ℕ → Option GroupKind
opening byte [] = None
opening byte (next ∷ after) = if byte == 36 then kind_of next else None

-- a text read as plain bytes and groups: nothing, a byte with the rest, or a group with its inside and the rest
pub data Reading : Type 0 where
  Over : Reading
  Plain : ℕ → Reading → Reading
  Group : GroupKind → Reading → Reading → Reading

-- the text of a reading
unfoldable pub text_of_reading : Reading → List ℕ
text_of_reading Over = []
text_of_reading (Plain byte rest) = byte ∷ text_of_reading rest
text_of_reading (Group kind inside rest) = 36 ∷ opener kind ∷ (text_of_reading inside ++ closer kind ∷ text_of_reading rest)

-- inside a group no plain byte ends it, and none opens a group
unfoldable pub IsBody : GroupKind → Reading → Type 0
IsBody kind Over = Unit {0}
IsBody kind (Plain byte rest) = (byte ≢ closer kind) × (opening byte (text_of_reading rest) ≡ None) × IsBody kind rest
IsBody kind (Group inner inside rest) = IsBody inner inside × IsBody kind rest

-- the text begins with a group
pub record BeginsGroup (text : List ℕ) : Type 0 where
  pub kind : GroupKind
  pub inside : Reading
  pub after : List ℕ
  pub body : IsBody kind inside
  pub text_is : text ≡ 36 ∷ opener kind ∷ (text_of_reading inside ++ closer kind ∷ after)

-- outside groups a byte is plain only if no group begins there
unfoldable pub IsWhole : Reading → Type 0
IsWhole Over = Unit {0}
IsWhole (Plain byte rest) = (¬ (BeginsGroup (byte ∷ text_of_reading rest))) × IsWhole rest
IsWhole (Group kind inside rest) = IsBody kind inside × IsWhole rest

-- the reading is one of the text
pub record IsReading (text : List ℕ) (reading : Reading) : Type 0 where
  pub text_is : text_of_reading reading ≡ text
  pub whole : IsWhole reading

-- the greatest number of groups inside each other
unfoldable pub depth_of : Reading → ℕ
depth_of Over = 0
depth_of (Plain byte rest) = depth_of rest
depth_of (Group kind inside rest) = max (suc (depth_of inside)) (depth_of rest)
