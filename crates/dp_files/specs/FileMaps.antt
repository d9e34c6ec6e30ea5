-- Files in memory, in the byte order of their names.
use Rattle.std.specs.Prelude.{ℕ, suc, ◌+◌, Bool, false, List, [], ◌∷◌, ◌++◌, map, take, drop, filter, Option, Some, None, if◌then◌else◌}
use Rattle.std.specs.Ordering.{nat_cmp, is_lt}
use Rattle.std.specs.Cmp.Lexicographic.{slice_cmp}
use Rattle.dp_conf.specs.Words.{same_text}
use Rattle.dp_files.specs.Sources.{Files}
use Rattle.dp_files.specs.Wildcards.{stands_for}
use Rattle.dp_files.specs.declared.file_map.NamedText.{NamedText}

-- the name of a file
abbrev pub name_of : NamedText → List ℕ
name_of file = file.name

-- the number of files before the first one whose name does not come before this one
abbrev pub place_in : List ℕ → List NamedText → ℕ
place_in name [] = 0
place_in name (f ∷ fs) = if is_lt (slice_cmp nat_cmp f.name name) then 1 + place_in name fs else 0

-- whether the first file has the name
abbrev pub begins_with_name : List ℕ → List NamedText → Bool
begins_with_name name [] = false
begins_with_name name (f ∷ fs) = same_text f.name name

-- a file at a place, given whether it replaces another one or is inserted before it
abbrev pub with_file_at : ℕ → Bool → NamedText → List NamedText → List NamedText
with_file_at place taken file files = take place files ++ file ∷ drop (if taken then suc place else place) files

-- a file comes after those whose names come before its own, and replaces one with the same name
abbrev pub with_file : NamedText → List NamedText → List NamedText
with_file file files =
    with_file_at (place_in file.name files) (begins_with_name file.name (drop (place_in file.name files) files)) file files

-- the text of the file with a name
abbrev pub text_in : List NamedText → List ℕ → Option (List ℕ)
text_in [] name = None
text_in (f ∷ fs) name = if same_text f.name name then Some f.text else text_in fs name

-- the names that match one with `*` and `?`
abbrev pub names_in : List NamedText → List ℕ → List (List ℕ)
names_in files pattern = filter (stands_for pattern) (map name_of files)

-- files in memory as files to read
abbrev pub files_in : List NamedText → Files
files_in files = record { text = text_in files; names = names_in files }
