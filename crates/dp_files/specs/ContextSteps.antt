-- Steps of the code: what the lines so far leave for the next one, kept so that it is found at once. What all of them say, the nearest
-- first, is `history_of` of ContextHistory.
use Rattle.std.specs.Prelude.{ℕ, Bool, ◌&&◌, List, [], ◌∷◌, Option, Some, None}
use Rattle.std.specs.Map.{lookup}
use Rattle.std.specs.Option.{option_map, option_or, unwrap_or}
use Rattle.indexmap.specs.IndexMap.{insert_entry}
use Rattle.dp_conf.specs.Words.{same_text}
use Rattle.dp_files.specs.ContextHistory as said
use Rattle.dp_files.specs.ContextLines as lines
use Rattle.dp_files.specs.ContextWords as words
use Rattle.dp_files.specs.PriorityView.{priority_now}
use Rattle.dp_files.specs.declared.context_line.ContextLine.{ContextLine}
use Rattle.dp_files.specs.declared.context_line.ContextLine.TheVariants.{Exten, Same, LeftOut, Other}
use Rattle.dp_files.specs.declared.extension.WrittenExtension.{WrittenExtension}
use Rattle.dp_files.specs.declared.history.ExtensionLabel.{ExtensionLabel}
use Rattle.dp_files.specs.declared.history.LineHistory.{LineHistory}
use Rattle.dp_files.specs.declared.history.SectionExtension.{SectionExtension}
use Rattle.dp_files.specs.declared.history.SectionExtension.TheVariants.{Absent, Spelled, Known}
use Rattle.dp_files.specs.declared.history.LineLeaves.{LineLeaves}
use Rattle.dp_files.specs.declared.history.LineLeaves.TheVariants.{Nothing, Names, Hints, Counts}
use Rattle.dp_files.specs.declared.line_reading.LineResult.{LineResult}
use Rattle.dp_files.specs.declared.line_reading.LineReading.{LineReading}
use Rattle.dp_files.specs.declared.line_reading.EntrySource.{EntrySource}
use Rattle.dp_files.specs.declared.line_reading.SpelledEntry.{SpelledEntry}
use Rattle.dp_files.specs.declared.entry_line.EntryLine.{EntryLine}

-- a line of a context, as its texts
abbrev pub line_now : ContextLine → words.ContextLineOf
line_now (Exten name entry) = words.Exten name.now entry.priority.now entry.application.now
line_now (Same entry) = words.Same entry.priority.now entry.application.now
line_now (LeftOut note) = words.LeftOut note
line_now Other = words.Other

-- ---- labels

-- two labels of extensions are the same
abbrev pub same_label : ExtensionLabel → ExtensionLabel → Bool
same_label a b = same_text a.spelling b.spelling && same_text a.label b.label

-- the label of an extension
abbrev pub label_key : List ℕ → List ℕ → ExtensionLabel
label_key spelling label = record { spelling = spelling; label = label }

-- the labels with one more, if there is one
abbrev pub with_label : List (ExtensionLabel × ℕ) → List ℕ → ℕ → Option (List ℕ) → List (ExtensionLabel × ℕ)
with_label labels spelling number None = labels
with_label labels spelling number (Some label) = insert_entry same_label labels (label_key spelling label) number

-- the number of a label
abbrev pub number_of_label : List (ExtensionLabel × ℕ) → List ℕ → List ℕ → Option ℕ
number_of_label labels spelling label = lookup (same_label (label_key spelling label)) labels

-- ---- the history

-- the extension of a name that is its own spelling
abbrev pub spelled_extension : List ℕ → WrittenExtension
spelled_extension name = record { name = name; spelling = name }

-- the last extension, if there is one
abbrev pub last_extension : SectionExtension → Option WrittenExtension
last_extension Absent = None
last_extension (Spelled name) = Some (spelled_extension name.now)
last_extension (Known extension) = Some extension

-- the history that the kept values represent
abbrev pub history_in : LineHistory → said.LineHistoryOf
history_in history = record {
  number = history.number;
  extension = last_extension history.extension;
  is_after_hint = history.is_after_hint;
  label = number_of_label history.labels.entries;
}

-- the history after one more line
abbrev pub after : said.LineHistoryOf → said.Said → said.LineHistoryOf
after history line = record {
  number = option_or (said.number_in line) history.number;
  extension = option_or (said.extension_in line) history.extension;
  is_after_hint = unwrap_or (said.hint_in line) history.is_after_hint;
  label = λ spelling label. option_or (said.label_in spelling label line) (history.label spelling label);
}

-- what a line of the extension says
abbrev pub said_by : WrittenExtension → LineLeaves → said.Said
said_by extension Nothing = said.Nothing
said_by extension Names = said.Names extension
said_by extension Hints = said.Hints extension
said_by extension (Counts number label) = said.Counts extension number (option_map (λ label. label.now) label)

-- ---- readings

-- an entry, as its texts
abbrev pub entry_now : EntryLine → lines.ContextEntry
entry_now entry = record {
  is_same = entry.is_same;
  extension = entry.extension.now;
  priority = option_map priority_now entry.priority;
  application = entry.application.now;
}

-- the reading of a line of the extension
abbrev pub reading_now : WrittenExtension → LineReading → lines.ContextReading
reading_now extension reading = record { said = said_by extension reading.leaves; made = reading.made }

-- the reading of the line of an entry, given as its texts, whose extension may not be valid
abbrev pub source_reading : said.LineHistoryOf → Option WrittenExtension → EntrySource → lines.ContextReading
source_reading history extension source =
    lines.reading_of history source.line.now source.is_same extension source.text.priority.now source.text.application.now

-- the reading of the line of an entry that needs no change, and whose name is its own spelling
abbrev pub spelled_reading : List ℕ → SpelledEntry → lines.ContextReading
spelled_reading line entry = record {
  said = said.Counts (spelled_extension entry.name.now) entry.number None;
  made = record { text = Some line; remark = None };
}

-- the result of each line, given the history before the first
abbrev pub all_made_after : said.LineHistoryOf → List (ℕ × List ℕ) → List (ℕ × LineResult)
all_made_after history [] = []
all_made_after history (line ∷ rest) =
    (line.0, (lines.line_reading history line.1).made)
    ∷ all_made_after (after history (lines.line_reading history line.1).said) rest
