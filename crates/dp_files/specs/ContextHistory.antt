-- The history with which a line of a context is read: what the lines before it in the section say.
use Rattle.std.specs.Prelude.{ℕ, Bool, true, false, not, ◌&&◌, ◌||◌, ◌==◌, List, [], ◌∷◌, Option, Some, None, Result, Ok, Err, if◌then◌else◌}
use Rattle.std.specs.List.{list_any}
use Rattle.std.specs.Option.{is_some, option_or, unwrap_or}
use Rattle.std.specs.Str.{byte}
use Rattle.dp_conf.specs.Groups.{opening}
use Rattle.dp_conf.specs.Words.{same_text}
use Rattle.dp_pattern.specs.Name.{Meaning, meaning_of}
use Rattle.dp_pattern.specs.Spelling.{spelling}
use Rattle.dp_pattern.specs.declared.fault.NameFault.{NameFault}
use Rattle.dp_files.specs.declared.extension.WrittenExtension.{WrittenExtension}

-- ---- extensions

-- a group opens in the text: it contains `${` or `$[`
abbrev pub has_group : List ℕ → Bool
has_group [] = false
has_group (b ∷ bs) = is_some (opening b bs) || has_group bs

-- the text contains a `/`
abbrev pub has_slash : List ℕ → Bool
has_slash text = list_any (λ b. b == byte "/") text

-- there is a caller's number after the name; in a name with a group, this is not known before the group is expanded
abbrev pub has_caller : List ℕ → Bool
has_caller name = not (has_group name) && has_slash name

-- only the text of the name is known: it has a group, or a caller's number
abbrev pub is_known_by_text : List ℕ → Bool
is_known_by_text name = has_group name || has_caller name

-- a name that was read has the canonical spelling of its meaning: names with one meaning are one extension
abbrev pub spelled_extension : List ℕ → Result Meaning NameFault → Option WrittenExtension
spelled_extension name (Err fault) = None
spelled_extension name (Ok meaning) = Some (record { name = name; spelling = spelling meaning })

-- the extension of a name, if it is valid; one with a group or with a caller's number is distinguished from others only by its text
unfoldable pub extension_of : List ℕ → Option WrittenExtension
extension_of name = if is_known_by_text name then Some (record { name = name; spelling = name }) else spelled_extension name (meaning_of name)

-- ---- what a line says to those after it

-- nothing; its extension; its extension, and that it is a hint; or its extension, its number and the label that it keeps
pub data Said : Type 0 where
  Nothing : Said
  Names : WrittenExtension → Said
  Hints : WrittenExtension → Said
  Counts : WrittenExtension → ℕ → Option (List ℕ) → Said

-- the number
abbrev pub number_in : Said → Option ℕ
number_in Nothing = None
number_in (Names extension) = None
number_in (Hints extension) = None
number_in (Counts extension number label) = Some number

-- the extension
abbrev pub extension_in : Said → Option WrittenExtension
extension_in Nothing = None
extension_in (Names extension) = Some extension
extension_in (Hints extension) = Some extension
extension_in (Counts extension number label) = Some extension

-- whether it is a hint, or a line with a number, which is not
abbrev pub hint_in : Said → Option Bool
hint_in Nothing = None
hint_in (Names extension) = None
hint_in (Hints extension) = Some true
hint_in (Counts extension number label) = Some false

-- the number of the label, if the line has the label and its extension has the spelling
abbrev pub number_with : List ℕ → List ℕ → WrittenExtension → ℕ → Option (List ℕ) → Option ℕ
number_with name label extension number None = None
number_with name label extension number (Some own) =
    if same_text name extension.spelling && same_text label own then Some number else None

-- the same for any line
abbrev pub label_in : List ℕ → List ℕ → Said → Option ℕ
label_in name label Nothing = None
label_in name label (Names extension) = None
label_in name label (Hints extension) = None
label_in name label (Counts extension number own) = number_with name label extension number own

-- ---- the history

-- the last number, the last extension, whether a hint comes after the last number, and the number of a label of an extension, which is
-- identified by the spelling of its name
pub record LineHistoryOf : Type 0 where
  pub number : Option ℕ
  pub extension : Option WrittenExtension
  pub is_after_hint : Bool
  pub label : List ℕ → List ℕ → Option ℕ

-- the first value that the elements give
abbrev pub nearest : {X Y : Type 0} → (X → Option Y) → List X → Option Y
nearest f [] = None
nearest f (x ∷ xs) = option_or (f x) (nearest f xs)

-- what the lines before say, the nearest line first
abbrev pub history_of : List Said → LineHistoryOf
history_of before = record {
  number = nearest number_in before;
  extension = nearest extension_in before;
  is_after_hint = unwrap_or (nearest hint_in before) false;
  label = λ name label. nearest (label_in name label) before;
}
