-- The canonical spelling of a name: one for each meaning.
use Rattle.std.specs.Prelude.{◌≡◌, ℕ, Bool, false, not, ◌||◌, List, [], ◌∷◌, ◌++◌, Ok, Contains, codes, if◌then◌else◌, bytes_eq}
use Rattle.std.specs.List.{flat_map, list_any}
use Rattle.dp_pattern.specs.Name.{Meaning, Plain, Pattern, is_one_of, is_bad, is_range, meaning_of, IsName}
use Rattle.dp_pattern.specs.declared.tail.Tail.{Tail}
use Rattle.dp_pattern.specs.declared.tail.Tail.TheVariants.{End, Dot, Bang}

-- a single byte that means itself outside sets
abbrev pub stands_alone : List ℕ → Bool
stands_alone [] = false
stands_alone (b ∷ []) = not (is_one_of (codes "XxZzNn[.!") b)
stands_alone (a ∷ b ∷ bytes) = false

-- the letter of a class of digits, else a single byte that means itself, else all members as a set
abbrev pub class_spelling : List ℕ → List ℕ
class_spelling class =
    if bytes_eq class (codes "0123456789") then codes "X" else
    (if bytes_eq class (codes "123456789") then codes "Z" else
    (if bytes_eq class (codes "23456789") then codes "N" else
    (if stands_alone class then class else codes "[" ++ class ++ codes "]")))

abbrev pub tail_spelling : Tail → List ℕ
tail_spelling End = []
tail_spelling Dot = codes "."
tail_spelling Bang = codes "!"

-- the text of a plain name; or `_`, the classes and the tail of a pattern
unfoldable pub spelling : Meaning → List ℕ
spelling (Plain text) = text
spelling (Pattern classes tail) = codes "_" ++ flat_map class_spelling classes ++ tail_spelling tail

-- a byte that a spelling may add: a digit, a letter, or one of `_ [ ] . !`
abbrev pub is_own : ℕ → Bool
is_own b = is_range b b || is_one_of (codes "_[].!") b

-- a spelling contains no byte that names cannot contain, and each byte that it does not add occurs in the text of the name
pub record SpellsCleanly : Type 0 where
  pub fine : (name : Meaning) → IsName name → list_any is_bad (spelling name) ≡ false
  pub kept : (text : List ℕ) (name : Meaning) (b : ℕ) → meaning_of text ≡ Ok name → Contains (spelling name) b → is_own b ≡ false → Contains text b
