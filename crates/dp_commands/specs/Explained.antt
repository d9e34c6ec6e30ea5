-- The explanation below a fault or a note: the line of the file, and a sentence.
use Rattle.std.specs.Prelude.{ℕ, ◌+◌, ◌-◌, ◌/◌, ◌%◌, ◌&&◌, nat_le, nat_lt, List, [], ◌∷◌, ◌++◌, take, unwrap_or, slice_get, codes, decimal, if◌then◌else◌}
use Rattle.std.specs.List.{flat_map}
use Rattle.dp_conf.specs.Lines.{parts_of}
use Rattle.dp_plan.specs.declared.note.NoteKind.{NoteKind}
use Rattle.dp_plan.specs.declared.note.NoteKind.TheVariants.{DoublePriority, DoubleLabel, UnknownContext, UnknownKey}

-- the digit of a number below 16
abbrev pub hex_digit : ℕ → ℕ
hex_digit number = if nat_lt number 10 then 48 + number else 87 + number

-- how a byte is shown: bytes 32 to 126 as they are, every other byte as `\xNN`
abbrev pub shown_byte : ℕ → List ℕ
shown_byte byte =
    if nat_le 32 byte && nat_le byte 126 then byte ∷ [] else 92 ∷ 120 ∷ hex_digit (byte / 16) ∷ hex_digit (byte % 16) ∷ []

-- the part of a line that is shown: its first 200 bytes
abbrev pub line_told : List ℕ → List ℕ
line_told line = flat_map shown_byte (take 200 line)

-- the line with a number, counted from 1
abbrev pub line_among : List (List ℕ) → ℕ → List ℕ
line_among lines number = unwrap_or (slice_get lines (number - 1)) []

-- a line of a file: the file's path, the line's number, and the part of the line that is shown
pub record LineOfFile : Type 0 where
  pub path : List ℕ
  pub number : ℕ
  pub shown : List ℕ

-- the line of a file with these bytes
abbrev pub file_line : List ℕ → ℕ → List ℕ → LineOfFile
file_line path number line = record { path = path; number = number; shown = line_told line }

-- the line with a number in the text of a file
abbrev pub line_at : List ℕ → List ℕ → ℕ → LineOfFile
line_at path text number = file_line path number (line_among (parts_of text) number)

-- the position of a line, indented on a line of its own
abbrev pub where_text : LineOfFile → List ℕ
where_text line = codes "  " ++ line.path ++ codes ":" ++ decimal line.number ++ codes "\n"

-- the line itself, indented on a line of its own
abbrev pub shown_text : LineOfFile → List ℕ
shown_text line = codes "  " ++ line.shown ++ codes "\n"

-- the position of a line, then the line itself
abbrev pub line_text : LineOfFile → List ℕ
line_text line = where_text line ++ shown_text line

-- a sentence, indented on a line of its own
abbrev pub sentence_text : List ℕ → List ℕ
sentence_text sentence = codes "  " ++ sentence ++ codes "\n"

-- the sentence that explains a note
abbrev pub note_sentence : NoteKind → List ℕ
note_sentence DoublePriority = codes "an earlier line of the context that is kept has the extension and the priority; this line is dropped"
note_sentence DoubleLabel = codes "an earlier line of the context and the extension that is kept has the label; this line is dropped"
note_sentence UnknownContext = codes "there is no context of this name; the include is kept, and finds nothing"
note_sentence UnknownKey = codes "a context has no such key, or a key in `[globals]` is empty, whatever its value is; this line is dropped"
