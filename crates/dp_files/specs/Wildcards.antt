-- Names of files that match a name with `*` and `?`.
use Rattle.std.specs.Prelude.{ℕ, ◌+◌, Bool, true, false, ◌&&◌, ◌||◌, ◌==◌, List, [], ◌∷◌, length, drop, Option, Some, None, if◌then◌else◌}
use Rattle.std.specs.List.{list_any}
use Rattle.std.specs.Str.{byte}
use Rattle.dp_conf.specs.Cut.{before_last}
use Rattle.dp_conf.specs.Words.{same_text}

-- the text and all its suffixes, down to the empty one
abbrev pub ends_of : List ℕ → List (List ℕ)
ends_of [] = [] ∷ []
ends_of (b ∷ bs) = (b ∷ bs) ∷ ends_of bs

-- whether a pattern matches a text: `*` matches any number of bytes, `?` one byte, and every other byte itself
abbrev pub matches : List ℕ → List ℕ → Bool
matches [] [] = true
matches [] (b ∷ bs) = false
matches (p ∷ ps) [] = p == byte "*" && matches ps []
matches (p ∷ ps) (b ∷ bs) =
    if p == byte "*" then list_any (matches ps) (ends_of (b ∷ bs)) else (p == byte "?" || p == b) && matches ps bs

-- the text before the last `/` of a name, if there is one
abbrev pub folder_of : List ℕ → Option (List ℕ)
folder_of name = before_last (byte "/") name

-- the last part of a name, given the folder
abbrev pub part_after : List ℕ → Option (List ℕ) → List ℕ
part_after name None = name
part_after name (Some folder) = drop (length folder + 1) name

-- the last part of a name: the text after its last `/`, or all of it
abbrev pub last_part : List ℕ → List ℕ
last_part name = part_after name (folder_of name)

-- whether the last part of a name contains a `*` or a `?`
abbrev pub is_wildcard : List ℕ → Bool
is_wildcard name = list_any (λ b. b == byte "*") (last_part name) || list_any (λ b. b == byte "?") (last_part name)

-- whether two folders are the same
abbrev pub same_folder : Option (List ℕ) → Option (List ℕ) → Bool
same_folder None None = true
same_folder None (Some b) = false
same_folder (Some a) None = false
same_folder (Some a) (Some b) = same_text a b

-- whether a name with `*` and `?` in its last part matches a name: in the same folder, and with a matching last part
unfoldable pub stands_for : List ℕ → List ℕ → Bool
stands_for pattern name = same_folder (folder_of pattern) (folder_of name) && matches (last_part pattern) (last_part name)
