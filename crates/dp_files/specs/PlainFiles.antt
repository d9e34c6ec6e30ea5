-- Files that contain only lines of a configuration text.
use Rattle.std.specs.Prelude.{◌≡◌, ℕ, ◌+◌, ◌≤◌, Bool, false, ◌||◌, List, [], ◌∷◌, length, None, Some}
use Rattle.std.specs.List.{list_any}
use Rattle.std.specs.Str.{byte}
use Rattle.dp_conf.specs.Cut.{begins_with}
use Rattle.dp_conf.specs.Lines.{without_mark, parts_of, comment_of, opens_block, content_of}
use Rattle.dp_conf.specs.Whole.{most_bytes}
use Rattle.dp_files.specs.Reading.{FilesOf}
use Rattle.dp_files.specs.Sources.{Files}
use Rattle.dp_files.specs.declared.source_line.SourceLine.{SourceLine}

-- a part that opens a block comment, or whose content begins with `#`
abbrev pub is_special : List ℕ → Bool
is_special part = opens_block (comment_of part) || begins_with (byte "#") (content_of part)

-- the first file exists and is not too long, and no part of it is special
pub record IsPlainFile (files : Files) (name text : List ℕ) : Type 0 where
  pub there : files.text name ≡ Some text
  pub short : length text ≤ most_bytes
  pub plain : list_any is_special (parts_of (without_mark text)) ≡ false

-- the parts of the first file as its lines, given the number of parts before them
abbrev pub numbered_lines : ℕ → List (List ℕ) → List SourceLine
numbered_lines count [] = []
numbered_lines count (part ∷ parts) = record { file = 0; line = count + 1; text = part } ∷ numbered_lines (count + 1) parts

-- one file, with its parts unchanged
abbrev pub plain_reading : List ℕ → List ℕ → FilesOf
plain_reading name text = record {
  files = record { name = name; included_by = None } ∷ [];
  lines = numbered_lines 0 (parts_of (without_mark text));
  remarks = [];
}
