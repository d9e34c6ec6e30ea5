-- Files below the folder of a first file: their paths, what a system gives at these, and what is known after files were requested.
use Rattle.std.specs.Prelude.{◌≡◌, ℕ, ◌<◌, ◌≤◌, ◌||◌, List, [], ◌∷◌, ◌++◌, map, filter, length, codes, Option, Some, None, MatchBool, IsPermutation, IsSorted, if◌then◌else◌}
use Rattle.std.specs.Cmp.Lexicographic.{slice_cmp}
use Rattle.std.specs.Map.{lookup}
use Rattle.std.specs.Ordering.{nat_cmp}
use Rattle.std.specs.Str.{byte, is_utf8}
use Rattle.dp_conf.specs.Cut.{begins_with}
use Rattle.dp_conf.specs.Whole.{most_bytes}
use Rattle.dp_conf.specs.Words.{same_text}
use Rattle.dp_files.specs.Sources.{Files, TextRead, Bytes, Absent, TooLong, text_read, Telling, TextOf, NamesOf}
use Rattle.dp_files.specs.Wildcards.{folder_of, stands_for}
use Rattle.dp_files.specs.declared.known_text.KnownText.{KnownText}
use Rattle.dp_files.specs.declared.known_text.KnownText.TheVariants.{Bytes as bytes_known, Absent as absent_known, TooLong as too_long_known}

-- ---- paths

-- a name in a folder, or the name itself without a folder
abbrev pub beside : Option (List ℕ) → List ℕ → List ℕ
beside None name = name
beside (Some folder) name = folder ++ byte "/" ∷ name

-- the path of a name: the name of the first file is its path, and so is a name that begins with `/`; any other is next to the first file
abbrev pub path_of : List ℕ → List ℕ → List ℕ
path_of first name = if same_text name first || begins_with (byte "/") name then name else beside (folder_of first) name

-- the folder that contains the file with a path, as a path
abbrev pub folder_at : List ℕ → List ℕ
folder_at path = beside (folder_of path) (codes ".")

-- ---- what a system gives

-- at a path that is not a text no file is read
abbrev pub MayBe : (List ℕ → Option (List ℕ) → Type 0) → List ℕ → Option (List ℕ) → Type 0
MayBe may_be path text = MatchBool (is_utf8 path) (may_be path text) (text ≡ None)

-- and no name is listed
abbrev pub MayList : (List ℕ → List (List ℕ) → Type 0) → List ℕ → List (List ℕ) → Type 0
MayList may_list path names = MatchBool (is_utf8 path) (may_list path names) (names ≡ [])

-- the possible results of reading a whole file, given what the file may be
abbrev pub MayRead : (Option (List ℕ) → Type 0) → TextRead → Type 0
MayRead may (Bytes bytes) = (length bytes ≤ most_bytes) × may (Some bytes)
MayRead may Absent = may None
MayRead may TooLong = (bytes : List ℕ) × (most_bytes < length bytes) × may (Some bytes)

-- the names in its folder that match one with `*` and `?`
abbrev pub names_among : List ℕ → List (List ℕ) → List (List ℕ)
names_among pattern found = filter (stands_for pattern) (map (beside (folder_of pattern)) found)

-- these names in byte order
pub record IsListing (pattern : List ℕ) (found names : List (List ℕ)) : Type 0 where
  pub same : IsPermutation (names_among pattern found) names
  pub order : IsSorted (slice_cmp nat_cmp) names

-- what may be reported of names, given what a system may give at their paths
abbrev pub MayTell : (List ℕ → Option (List ℕ) → Type 0) → (List ℕ → List (List ℕ) → Type 0) → List ℕ → Telling → Type 0
MayTell may_be may_list first (TextOf name text) = MayBe may_be (path_of first name) text
MayTell may_be may_list first (NamesOf pattern names) =
    (found : List (List ℕ)) × MayList may_list (folder_at (path_of first pattern)) found × IsListing pattern found names

-- ---- what is known

-- something is known of each requested file, and for each name with `*` and `?` the names that match it
pub record KnownFiles : Type 0 where
  pub texts : List (List ℕ × KnownText)
  pub lists : List (List ℕ × List (List ℕ))

-- before any file was requested
abbrev pub nothing_known : KnownFiles
nothing_known = record { texts = []; lists = [] }

-- what is known of a file
abbrev pub text_known : KnownFiles → List ℕ → Option KnownText
text_known known name = lookup (same_text name) known.texts

-- the names that are known to match one with `*` and `?`
abbrev pub names_known : KnownFiles → List ℕ → Option (List (List ℕ))
names_known known pattern = lookup (same_text pattern) known.lists

-- a file agrees with what is known of it
abbrev pub Fits : KnownText → Option (List ℕ) → Type 0
Fits (bytes_known bytes) text = text ≡ Some bytes
Fits absent_known text = text ≡ None
Fits too_long_known text = text_read most_bytes text ≡ TooLong

-- a file of which nothing is known may be any
abbrev pub FitsKnown : Option KnownText → Option (List ℕ) → Type 0
FitsKnown None text = Unit {0}
FitsKnown (Some known) text = Fits known text

-- names agree with what is known of them; those of which nothing is known may be any
abbrev pub AreKnown : Option (List (List ℕ)) → List (List ℕ) → Type 0
AreKnown None names = Unit {0}
AreKnown (Some known) names = names ≡ known

-- files that agree with what is known
pub record Agrees (known : KnownFiles) (has : Files) : Type 0 where
  pub texts : (name : List ℕ) → FitsKnown (text_known known name) (has.text name)
  pub names : (pattern : List ℕ) → AreKnown (names_known known pattern) (has.names pattern)

-- what is known of a file fits a text that may be reported for it
abbrev pub MayFit : (Option (List ℕ) → Type 0) → KnownText → Type 0
MayFit may known = (text : Option (List ℕ)) × Fits known text × may text

-- the same, if something is known of the file
abbrev pub MayFitKnown : (Option (List ℕ) → Type 0) → Option KnownText → Type 0
MayFitKnown may None = Unit {0}
MayFitKnown may (Some known) = MayFit may known

-- known names are names that may be reported
abbrev pub MayBeKnown : (List (List ℕ) → Type 0) → Option (List (List ℕ)) → Type 0
MayBeKnown may None = Unit {0}
MayBeKnown may (Some names) = may names

-- everything known is something that may be reported
pub record MayKnow (may_tell : Telling → Type 0) (known : KnownFiles) : Type 0 where
  pub texts : (name : List ℕ) → MayFitKnown (λ text. may_tell (TextOf name text)) (text_known known name)
  pub names : (pattern : List ℕ) → MayBeKnown (λ names. may_tell (NamesOf pattern names)) (names_known known pattern)

-- what is known of a file after it was read
abbrev pub known_of : TextRead → KnownText
known_of (Bytes bytes) = bytes_known bytes
known_of Absent = absent_known
known_of TooLong = too_long_known

-- for something that a system may report, a property holds of all files that agree with it
abbrev pub ReadsFolder : (Telling → Type 0) → (Files → Type 0) → Type 0
ReadsFolder may_tell Holds = (known : KnownFiles) × MayKnow may_tell known × ((has : Files) → Agrees known has → Holds has)
