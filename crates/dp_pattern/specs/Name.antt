-- The meaning of a text as the name of an extension, or the reason why it is not a name.
use Rattle.std.specs.Prelude.{◌≡◌, ℕ, zero, suc, ◌+◌, ◌<◌, Bool, true, false, ◌||◌, ◌&&◌, ◌==◌, nat_lt, nat_le, List, [], ◌∷◌, length, take, codes, if◌then◌else◌, Option, Some, None, Result, Ok, Err, EachIndex, slice_index}
use Rattle.std.specs.List.{list_any, list_all, position}
use Rattle.std.specs.Str.{byte}
use Rattle.dp_pattern.specs.Classes.{class_by}
use Rattle.dp_pattern.specs.Dashes.{is_dash, without_dashes, from_first}
use Rattle.dp_pattern.specs.declared.class.SetItem.{SetItem}
use Rattle.dp_pattern.specs.declared.class.SetItem.TheVariants.{One, Range}
use Rattle.dp_pattern.specs.declared.tail.Tail.{Tail}
use Rattle.dp_pattern.specs.declared.tail.Tail.TheVariants.{End, Dot, Bang}
use Rattle.dp_pattern.specs.declared.fault.NameFault.{NameFault}
use Rattle.dp_pattern.specs.declared.fault.NameFault.TheVariants.{EmptyName, EmptySet, BadRange, OpenSet, AfterWildcard, BadByte}
use Rattle.dp_pattern.specs.declared.fault.PatternFault.{PatternFault}
use Rattle.dp_pattern.specs.declared.fault.PatternFault.TheVariants.{Name, NoMemory}

-- the meaning of a name: a text, or the classes of a pattern and the tail after them
pub data Meaning : Type 0 where
  Plain : List ℕ → Meaning
  Pattern : List (List ℕ) → Tail → Meaning

-- a piece of the text of a pattern; a set is the text between `[` and the next `]`
pub data PatternPieceOf : Type 0 where
  Dash : PatternPieceOf
  Wild : Tail → PatternPieceOf
  Byte : ℕ → PatternPieceOf
  Set : List ℕ → PatternPieceOf
  Unclosed : PatternPieceOf

infixl 10 ◌>>=◌
abbrev pub ◌>>=◌ : {A B : Type 0} → Result A NameFault → (A → Result B NameFault) → Result B NameFault
(Ok x) >>= f = f x
(Err e) >>= f = Err e

abbrev pub is_one_of : List ℕ → ℕ → Bool
is_one_of bytes b = list_any (λ a. b == a) bytes

-- a byte that no name may contain: one below 33, such as a blank, 127, or `\`, which is 92
abbrev pub is_bad : ℕ → Bool
is_bad b = nat_lt b 33 || b == 127 || b == 92

-- ---- a set

-- from the left, three bytes with a `-` in the middle are a range
abbrev pub items_of : List ℕ → List SetItem
items_of [] = []
items_of (a ∷ []) = One a ∷ []
items_of (a ∷ b ∷ []) = One a ∷ One b ∷ []
items_of (a ∷ b ∷ c ∷ bytes) =
    elim (is_dash b) [ true ↦ Range a c ∷ items_of bytes | false ↦ One a ∷ items_of (b ∷ c ∷ bytes) ]

-- low to high, and from and to between them in rising or equal order
abbrev pub is_within : ℕ → ℕ → ℕ → ℕ → Bool
is_within low high from to = nat_le low from && nat_le from to && nat_le to high

-- two digits, two capitals or two small letters
abbrev pub is_range : ℕ → ℕ → Bool
is_range from to =
    is_within (byte "0") (byte "9") from to || is_within (byte "A") (byte "Z") from to || is_within (byte "a") (byte "z") from to

-- the reason why a set cannot list the item
abbrev pub item_fault : SetItem → Option NameFault
item_fault (One b) = if is_dash b then Some BadRange else (if is_bad b then Some BadByte else None)
item_fault (Range from to) = if is_range from to then None else Some BadRange

abbrev pub or_else : Option NameFault → Option NameFault → Option NameFault
or_else None next = next
or_else (Some fault) next = Some fault

abbrev pub first_fault : List SetItem → Option NameFault
first_fault [] = None
first_fault (item ∷ items) = or_else (item_fault item) (first_fault items)

-- whether the item lists the byte
abbrev pub lists : ℕ → SetItem → Bool
lists b (One a) = a == b
lists b (Range from to) = nat_le from b && nat_le b to

-- the bytes that some item lists, unless an item is faulty
abbrev pub unless_fault : Option NameFault → List ℕ → Result (List ℕ) NameFault
unless_fault None class = Ok class
unless_fault (Some fault) class = Err fault

abbrev pub class_of_items : List SetItem → Result (List ℕ) NameFault
class_of_items items = unless_fault (first_fault items) (class_by (λ b. list_any (lists b) items))

abbrev pub class_of_set : List ℕ → Result (List ℕ) NameFault
class_of_set [] = Err EmptySet
class_of_set (b ∷ bytes) = class_of_items (items_of (b ∷ bytes))

-- ---- a pattern

-- the class of a byte outside sets: digits for a letter that means them, else the byte itself
abbrev pub class_of : ℕ → Result (List ℕ) NameFault
class_of b =
    if is_one_of (codes "Xx") b then Ok (codes "0123456789") else
    (if is_one_of (codes "Zz") b then Ok (codes "123456789") else
    (if is_one_of (codes "Nn") b then Ok (codes "23456789") else
    (if is_bad b then Err BadByte else Ok (b ∷ []))))

-- a byte outside sets other than `[`
abbrev pub piece_of : ℕ → PatternPieceOf
piece_of b =
    if is_dash b then Dash else
    (if b == byte "." then Wild Dot else
    (if b == byte "!" then Wild Bang else Byte b))

abbrev pub is_end : ℕ → Bool
is_end b = b == byte "]"

-- the set of the text after a `[`, given the place of the next `]`
abbrev pub set_piece : Option ℕ → List ℕ → PatternPieceOf
set_piece None text = Unclosed
set_piece (Some n) text = Set (take n text)

-- the number of bytes after the `[` that belong to the set, including its `]`
abbrev pub set_size : Option ℕ → List ℕ → ℕ
set_size None text = length text
set_size (Some n) text = n + 1

-- the pieces of the text, whose first n bytes belong to the piece before
abbrev pub pieces_after : ℕ → List ℕ → List PatternPieceOf
pieces_after n [] = []
pieces_after (suc n) (b ∷ text) = pieces_after n text
pieces_after zero (b ∷ text) = elim (b == byte "[") [
  | true ↦ set_piece (position is_end text) text ∷ pieces_after (set_size (position is_end text) text) text
  | false ↦ piece_of b ∷ pieces_after zero text
]

abbrev pub pieces_of : List ℕ → List PatternPieceOf
pieces_of text = pieces_after zero text

abbrev pub is_dash_piece : PatternPieceOf → Bool
is_dash_piece Dash = true
is_dash_piece (Wild tail) = false
is_dash_piece (Byte b) = false
is_dash_piece (Set bytes) = false
is_dash_piece Unclosed = false

abbrev pub Parts : Type 0
Parts = List (List ℕ) × Tail

abbrev pub with_class : Result (List ℕ) NameFault → Result Parts NameFault → Result Parts NameFault
with_class class parts = class >>= (λ c. parts >>= (λ p. Ok (c ∷ p.0, p.1)))

-- the classes and the tail, or the first fault from the left; of two faults at one byte, text after a wildcard comes
-- first, then a set that is not closed, then a fault in the set, where the place of a range is its first byte
abbrev pub parts_of : List PatternPieceOf → Result Parts NameFault
parts_of [] = Ok ([], End)
parts_of (Dash ∷ pieces) = parts_of pieces
parts_of (Wild tail ∷ pieces) = if list_all is_dash_piece pieces then Ok ([], tail) else Err AfterWildcard
parts_of (Byte b ∷ pieces) = with_class (class_of b) (parts_of pieces)
parts_of (Set bytes ∷ pieces) = with_class (class_of_set bytes) (parts_of pieces)
parts_of (Unclosed ∷ pieces) = Err OpenSet

-- ---- a name

-- a pattern without a class and a tail is an empty name
abbrev pub pattern_of : Parts → Result Meaning NameFault
pattern_of parts = elim parts.1 [ End ↦ ended parts.0 | Dot ↦ Ok (Pattern parts.0 Dot) | Bang ↦ Ok (Pattern parts.0 Bang) ]
  where
    ended : List (List ℕ) → Result Meaning NameFault
    ended [] = Err EmptyName
    ended (c ∷ classes) = Ok (Pattern (c ∷ classes) End)

-- the meaning of a text that is not a pattern
abbrev pub plain_of : List ℕ → Result Meaning NameFault
plain_of text = if list_any is_bad text then Err BadByte else Ok (Plain (without_dashes text))

-- the meaning of the text after the `_` of a pattern
abbrev pub pattern_reading : List ℕ → Result Meaning NameFault
pattern_reading text = parts_of (pieces_of text) >>= pattern_of

-- the meaning of a text that does not begin with a dash: after a `_` comes a pattern
abbrev pub reading_of : List ℕ → Result Meaning NameFault
reading_of [] = Err EmptyName
reading_of (b ∷ text) = if b == byte "_" then pattern_reading text else plain_of (b ∷ text)

-- the meaning of the text, or the reason why it is not a name
unfoldable pub meaning_of : List ℕ → Result Meaning NameFault
meaning_of text = reading_of (from_first text)

-- the name is the meaning of some text
pub record IsName (name : Meaning) : Type 0 where
  pub text : List ℕ
  pub bytes : EachIndex text (λ k. slice_index text k < 256)
  pub read : meaning_of text ≡ Ok name

-- the reason why a text was not read: the fault of the name, or out-of-memory in place of any result
abbrev pub IsReason : {X : Type 0} → PatternFault → Result X NameFault → Type 0
IsReason (Name fault) given = given ≡ Err fault
IsReason NoMemory given = Unit {0}
