-- Lines that are unchanged.
use Rattle.std.specs.Prelude.{◌≡◌, ℕ, Bool, true, false, not, ◌&&◌, List, [], ◌∷◌, map, Option, Some, None}
use Rattle.dp_conf.specs.Lines.{content_of}
use Rattle.dp_files.specs.ContextHistory.{Said, LineHistoryOf, extension_of, has_caller, history_of}
use Rattle.dp_files.specs.ContextLines.{context_lines, context_remarks, is_alone, is_double, kept_label, label_of, line_reading}
use Rattle.dp_files.specs.ContextWords.{ContextLineOf, Exten, Same, LeftOut, Other, context_line, is_old_form}
use Rattle.dp_files.specs.Priorities.{WrittenPriorityOf, priority_of}
use Rattle.dp_files.specs.declared.extension.WrittenExtension.{WrittenExtension}
use Rattle.dp_files.specs.declared.source_line.MadeLine.{MadeLine}

-- a priority that is a plain number, or that is malformed
abbrev pub is_fixed : Option WrittenPriorityOf → Bool
is_fixed None = true
is_fixed (Some priority) = is_alone priority.written

-- no earlier line of the extension has the label
abbrev pub is_single : LineHistoryOf → WrittenExtension → Option WrittenPriorityOf → Bool
is_single history extension priority =
    not (is_double (label_of priority) (kept_label history extension.spelling (label_of priority)))

-- an entry with a priority of digits, without a caller's number, an application of the old form, or a label of an earlier line
abbrev pub is_plain_entry : LineHistoryOf → Option WrittenExtension → Option WrittenPriorityOf → List ℕ → Bool
is_plain_entry history None priority application = true
is_plain_entry history (Some extension) priority application =
    not (has_caller extension.name) && (is_fixed priority && (not (is_old_form application) && is_single history extension priority))

-- such an entry, or a line that is neither an entry nor left out
abbrev pub is_plain_line : LineHistoryOf → ContextLineOf → Bool
is_plain_line history (Exten name priority application) = is_plain_entry history (extension_of name) (priority_of priority) application
is_plain_line history (Same priority application) = is_plain_entry history history.extension (priority_of priority) application
is_plain_line history (LeftOut note) = false
is_plain_line history Other = true

-- the line with such a text
unfoldable pub is_plain : LineHistoryOf → List ℕ → Bool
is_plain history line = is_plain_line history (context_line (content_of line))

-- each line is such a line, given those before it
abbrev pub are_plain : List Said → List (ℕ × List ℕ) → Bool
are_plain before [] = true
are_plain before (line ∷ lines) =
    is_plain (history_of before) line.1 && are_plain ((line_reading (history_of before) line.1).said ∷ before) lines

-- a line unchanged
abbrev pub as_it_stands : ℕ × List ℕ → MadeLine
as_it_stands line = record { source = line.0; text = line.1 }

-- plain lines are unchanged, byte for byte, and there are no remarks on them
pub record PlainLinesStand : Type 0 where
  pub lines : (lines : List (ℕ × List ℕ)) → are_plain [] lines ≡ true → context_lines lines ≡ map as_it_stands lines
  pub remarks : (lines : List (ℕ × List ℕ)) → are_plain [] lines ≡ true → context_remarks lines ≡ []
