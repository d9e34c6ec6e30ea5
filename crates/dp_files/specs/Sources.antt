-- The files of a source, and the result of reading one of them.
use Rattle.std.specs.Prelude.{◌≡◌, ℕ, min, nat_le, List, length, Option, Some, None, if◌then◌else◌}
use Rattle.dp_conf.specs.Whole.{most_bytes}
use Rattle.dp_files.specs.declared.source.FileText.{FileText}
use Rattle.dp_files.specs.declared.source.FileText.TheVariants.{Bytes as bytes_in, Absent as absent_in, TooLong as too_long_in}

-- the text of the file with a name, if it exists and can be read, and the names in byte order that match one with `*` and `?`
pub record Files : Type 0 where
  pub text : List ℕ → Option (List ℕ)
  pub names : List ℕ → List (List ℕ)

-- what may be reported of a name: the text of its file, or that it has none; and of one with `*` and `?` the names that match it
pub data Telling : Type 0 where
  TextOf : List ℕ → Option (List ℕ) → Telling
  NamesOf : List ℕ → List (List ℕ) → Telling

-- the report is true of these files
abbrev pub Tells : Files → Telling → Type 0
Tells files (TextOf name text) = files.text name ≡ text
Tells files (NamesOf pattern names) = files.names pattern ≡ names

-- the bytes of a file, that there is none, or that it has too many
pub data TextRead : Type 0 where
  Bytes : List ℕ → TextRead
  Absent : TextRead
  TooLong : TextRead

-- the result of reading a file that may have this many bytes, and never more than 16,777,216
abbrev pub text_read : ℕ → Option (List ℕ) → TextRead
text_read most None = Absent
text_read most (Some bytes) = if nat_le (length bytes) (min most most_bytes) then Bytes bytes else TooLong

-- the result of a call
abbrev pub text_now : FileText → TextRead
text_now (bytes_in bytes) = Bytes bytes.items
text_now absent_in = Absent
text_now too_long_in = TooLong

-- the number of bytes that were read
abbrev pub length_read : TextRead → ℕ
length_read (Bytes bytes) = length bytes
length_read Absent = 0
length_read TooLong = 0
