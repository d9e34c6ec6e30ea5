-- How texts are written in the labels of a picture.
use Rattle.std.specs.Prelude.{ℕ, ◌+◌, Bool, not, ◌&&◌, ◌||◌, ◌==◌, nat_le, List, [], ◌∷◌, ◌++◌, length, take, codes, decimal, if◌then◌else◌}
use Rattle.std.specs.List.{flat_map}
use Rattle.std.specs.Str.{chars, is_utf8}

-- the characters of a text; the bytes of a text that is not UTF-8 count as characters of Latin-1
abbrev pub characters : List ℕ → List ℕ
characters text = if is_utf8 text then chars text else text

-- whether a character stands for itself: those of ASCII do, except control characters and the signs `"`, `&`, `<` and `>`
abbrev pub is_harmless : ℕ → Bool
is_harmless c = nat_le 32 c && nat_le c 126 && not (c == 34) && not (c == 38) && not (c == 60) && not (c == 62)

-- the character that is shown for one that does not stand for itself: the picture of a control character, U+FFFD for the two that no label
-- may have, and any other as it is
abbrev pub shown_code : ℕ → ℕ
shown_code c =
    if nat_le c 31 then 9216 + c
    else if c == 127 then 9249
    else if c == 65534 || c == 65535 then 65533
    else c

-- a character by its number
abbrev pub code_text : ℕ → List ℕ
code_text code = codes "&#" ++ decimal code ++ codes ";"

-- a character in a label
abbrev pub character_text : ℕ → List ℕ
character_text c = if is_harmless c then c ∷ [] else code_text (shown_code c)

-- a text in a label
unfoldable pub label_text : List ℕ → List ℕ
label_text text = flat_map character_text (characters text)

-- how many characters of a long text are shown
abbrev pub most_shown : ℕ
most_shown = 40

-- the first characters, with a sign if some are left out
abbrev pub first_text : List ℕ → List ℕ
first_text cs =
    if nat_le (length cs) most_shown then flat_map character_text cs
    else flat_map character_text (take most_shown cs) ++ codes "..."

-- a text in a label, shortened if it is long
unfoldable pub short_text : List ℕ → List ℕ
short_text text = first_text (characters text)
