-- Files in memory, with one more in its place.
use Rattle.std.proofs.Common.{◌≡◌, ℕ, ◌<◌, Bool, true, false, List, [], ◌∷◌, ◌++◌, take, drop, length, set, refl, ap, arith}
use Rattle.std.proofs.lemmas.List.{set_split, length-drop}
use Rattle.dp_files.specs.FileMaps.{begins_with_name, with_file_at}
use Rattle.dp_files.specs.declared.file_map.NamedText.{NamedText}

-- if the first of the files has a name, there is one
pub begins_within : (name : List ℕ) (place : ℕ) (files : List NamedText) → begins_with_name name (drop place files) ≡ true → place < length files
begins_within name place files e = by (drop place files) refl e
  where
    by : (rest : List NamedText) → drop place files ≡ rest → begins_with_name name rest ≡ true → place < length files
    by [] same e = absurd cc
    by (f ∷ rest) same e = let l = ap length same in omega (arith, l, length-drop place files)

-- the file replaces another
pub set_taken : (place : ℕ) (taken : Bool) (file : NamedText) (files : List NamedText) → place < length files → taken ≡ true → set files place file ≡ with_file_at place taken file files
set_taken place true file files within e = set_split files place file within
set_taken place false file files within e = absurd cc

-- the file is inserted before another
pub insert_free : (place : ℕ) (taken : Bool) (file : NamedText) (files : List NamedText) → taken ≡ false → take place files ++ file ∷ drop place files ≡ with_file_at place taken file files
insert_free place true file files e = absurd cc
insert_free place false file files e = refl

-- the file in its place, for `FileMap::add`
pub ruleset file_at_its_place = (begins_within, set_taken, insert_free)
