-- The lines made from the lines of a context, and the remarks on them.
--
-- Priorities become numbers, and what does not affect calls, or what this program cannot follow, is left out. A line that the loader
-- refuses is unchanged, so that the loader reports the fault, and it says nothing to the lines after it.
use Rattle.std.specs.Prelude.{ℕ, ◌+◌, Bool, true, false, not, ◌&&◌, List, [], ◌∷◌, ◌++◌, Option, Some, None, codes, decimal, slice_get, if◌then◌else◌}
use Rattle.std.specs.List.{flat_map}
use Rattle.std.specs.Option.{option_map, option_and_then, option_to_list, unwrap_or, is_some}
use Rattle.dp_conf.specs.Escape.{escape_text}
use Rattle.dp_conf.specs.Lines.{content_of}
use Rattle.dp_files.specs.ContextHistory.{Said, Nothing, Names, Hints, Counts, LineHistoryOf, extension_of, has_caller, history_of}
use Rattle.dp_files.specs.ContextWords.{ContextLineOf, Exten, Same, LeftOut, Other, context_line, is_old_form}
use Rattle.dp_files.specs.Priorities.{BaseOf, Number, Next, Label, Same as same_base, WrittenBaseOf, Hint, Counted, WrittenPriorityOf, priority_of, within_limit}
use Rattle.dp_files.specs.declared.extension.WrittenExtension.{WrittenExtension}
use Rattle.dp_files.specs.declared.remark.LineNote.TheVariants.{AfterHint, DoubleLabel, CallerId, Hint as hint_note}
use Rattle.dp_files.specs.declared.remark.Fault.TheVariants.{OldForm}
use Rattle.dp_files.specs.declared.remark.RemarkKind.{RemarkKind}
use Rattle.dp_files.specs.declared.remark.RemarkKind.TheVariants.{Note as note_kind, Fault as fault_kind}
use Rattle.dp_files.specs.declared.remark.LineRemark.{LineRemark}
use Rattle.dp_files.specs.declared.source_line.SourceLine.{SourceLine}
use Rattle.dp_files.specs.declared.source_line.MadeLine.{MadeLine}
use Rattle.dp_files.specs.declared.line_reading.LineResult.{LineResult}
use Rattle.dp_files.specs.declared.outcome.PriorityOutcome.{PriorityOutcome}
use Rattle.dp_files.specs.declared.outcome.PriorityOutcome.TheVariants.{Refused, Hinted, AfterTheHint, Numbered}

-- what a line says to those after it, and the result of it
pub record ContextReading : Type 0 where
  pub said : Said
  pub made : LineResult

-- an `exten` or `same` line with its extension
pub record ContextEntry : Type 0 where
  pub is_same : Bool
  pub extension : WrittenExtension
  pub priority : Option WrittenPriorityOf
  pub application : List ℕ

-- the line is unchanged
abbrev pub stands : List ℕ → ContextReading
stands line = record { said = Nothing; made = record { text = Some line; remark = None } }

-- the line is left out
abbrev pub left_out : Said → RemarkKind → ContextReading
left_out said remark = record { said = said; made = record { text = None; remark = Some remark } }

-- ---- priorities

-- a number with the added number, unless the sum is too great
abbrev pub sum_of : Option ℕ → Option ℕ → Option ℕ
sum_of base more = option_and_then (λ number. within_limit (number + unwrap_or more 0)) base

-- the number of the base, for an extension with this spelling
abbrev pub base_number : LineHistoryOf → List ℕ → BaseOf → Option ℕ
base_number history name (Number number) = Some number
base_number history name Next = sum_of history.number (Some 1)
base_number history name same_base = history.number
base_number history name (Label label) = history.label name label

-- `n` and `next`
abbrev pub is_next : BaseOf → Bool
is_next (Number number) = false
is_next Next = true
is_next same_base = false
is_next (Label label) = false

-- the outcome of a number, if there is one
abbrev pub outcome_of_number : Option ℕ → PriorityOutcome
outcome_of_number None = Refused
outcome_of_number (Some number) = Numbered number

-- the outcome of a priority without its label; after a hint Asterisk has no number for `n`
abbrev pub written_outcome : LineHistoryOf → List ℕ → WrittenBaseOf → PriorityOutcome
written_outcome history name Hint = Hinted
written_outcome history name (Counted base more) =
    if is_next base && history.is_after_hint then AfterTheHint else outcome_of_number (sum_of (base_number history name base) more)

-- the outcome of a priority of the extension with this spelling
abbrev pub outcome_of : LineHistoryOf → List ℕ → Option WrittenPriorityOf → PriorityOutcome
outcome_of history name None = Refused
outcome_of history name (Some priority) = written_outcome history name priority.written

-- ---- labels

-- the label of a priority, if it has one
abbrev pub label_of : Option WrittenPriorityOf → Option (List ℕ)
label_of priority = option_and_then (λ p. p.label) priority

-- the label, unless an earlier line of the extension has it
abbrev pub kept_label : LineHistoryOf → List ℕ → Option (List ℕ) → Option (List ℕ)
kept_label history name label = option_and_then (λ l. if is_some (history.label name l) then None else Some l) label

-- a label that is not kept
abbrev pub is_double : Option (List ℕ) → Option (List ℕ) → Bool
is_double label kept = is_some label && not (is_some kept)

-- the note of a label that is not kept
abbrev pub double_note : Bool → Option RemarkKind
double_note double = if double then Some (note_kind DoubleLabel) else None

-- ---- the line of an entry

-- a number
abbrev pub is_number : BaseOf → Bool
is_number (Number number) = true
is_number Next = false
is_number same_base = false
is_number (Label label) = false

-- a number without an added number
abbrev pub is_alone : WrittenBaseOf → Bool
is_alone Hint = false
is_alone (Counted base None) = is_number base
is_alone (Counted base (Some more)) = false

-- a priority that is a plain number
abbrev pub is_number_alone : Option WrittenPriorityOf → Bool
is_number_alone None = false
is_number_alone (Some priority) = is_alone priority.written

-- the label of a line in parentheses
abbrev pub label_text : Option (List ℕ) → List ℕ
label_text None = []
label_text (Some label) = codes "(" ++ label ++ codes ")"

-- the key, the sign and the name, if the line has one
abbrev pub entry_front : Bool → List ℕ → List ℕ
entry_front is_same name = if is_same then codes "same => " else codes "exten => " ++ name ++ codes ","

-- the content of a line with a number
abbrev pub entry_content : Bool → List ℕ → ℕ → Option (List ℕ) → List ℕ → List ℕ
entry_content is_same name number label application =
    entry_front is_same name ++ decimal number ++ label_text label ++ codes "," ++ application

-- the line needs no change: its number is written there, its label is kept, and it is not a `same` line whose extension is only in lines
-- that are left out, as it is after a hint
abbrev pub needs_no_change : Bool → ContextEntry → Bool → Bool
needs_no_change after_hint entry double = is_number_alone entry.priority && not double && not (entry.is_same && after_hint)

-- the line with this number and this label
abbrev pub entry_text : Bool → List ℕ → ContextEntry → ℕ → Option (List ℕ) → List ℕ
entry_text after_hint line entry number kept =
    if needs_no_change after_hint entry (is_double (label_of entry.priority) kept) then line
    else escape_text (entry_content (entry.is_same && not after_hint) entry.extension.name number kept entry.application)

-- an entry with this number and this label
abbrev pub entry_made : Bool → List ℕ → ContextEntry → ℕ → Option (List ℕ) → LineResult
entry_made after_hint line entry number kept = record {
  text = Some (entry_text after_hint line entry number kept);
  remark = double_note (is_double (label_of entry.priority) kept);
}

-- an entry with a number, unless its application is of the old form
unfoldable pub numbered_reading : Bool → List ℕ → ContextEntry → ℕ → Option (List ℕ) → ContextReading
numbered_reading after_hint line entry number kept =
    if is_old_form entry.application then left_out Nothing (fault_kind OldForm)
    else record { said = Counts entry.extension number kept; made = entry_made after_hint line entry number kept }

-- an entry whose extension has no caller's number
abbrev pub plain_reading : Bool → List ℕ → ContextEntry → Option (List ℕ) → PriorityOutcome → ContextReading
plain_reading after_hint line entry kept Refused = stands line
plain_reading after_hint line entry kept Hinted = left_out (Hints entry.extension) (note_kind hint_note)
plain_reading after_hint line entry kept AfterTheHint = left_out (Names entry.extension) (note_kind AfterHint)
plain_reading after_hint line entry kept (Numbered number) = numbered_reading after_hint line entry number kept

-- what an entry says if it is left out because of its caller's number: the same as if it were kept
abbrev pub caller_said : WrittenExtension → Option (List ℕ) → PriorityOutcome → Said
caller_said extension kept Refused = Names extension
caller_said extension kept Hinted = Hints extension
caller_said extension kept AfterTheHint = Names extension
caller_said extension kept (Numbered number) = Counts extension number kept

-- an entry, given the label that it keeps and the outcome of its priority
abbrev pub reading_by : Bool → List ℕ → ContextEntry → Option (List ℕ) → PriorityOutcome → ContextReading
reading_by after_hint line entry kept outcome =
    if has_caller entry.extension.name then left_out (caller_said entry.extension kept outcome) (note_kind CallerId)
    else plain_reading after_hint line entry kept outcome

-- an entry
unfoldable pub entry_reading : LineHistoryOf → List ℕ → ContextEntry → ContextReading
entry_reading history line entry =
    reading_by history.is_after_hint line entry (kept_label history entry.extension.spelling (label_of entry.priority))
    (outcome_of history entry.extension.spelling entry.priority)

-- ---- the line

-- an entry of an extension, if it is valid
abbrev pub reading_of : LineHistoryOf → List ℕ → Bool → Option WrittenExtension → List ℕ → List ℕ → ContextReading
reading_of history line is_same None priority application = stands line
reading_of history line is_same (Some extension) priority application =
    entry_reading history line
    (record { is_same = is_same; extension = extension; priority = priority_of priority; application = application })

-- a line, given what it says
abbrev pub line_by : LineHistoryOf → List ℕ → ContextLineOf → ContextReading
line_by history line (Exten name priority application) = reading_of history line false (extension_of name) priority application
line_by history line (Same priority application) = reading_of history line true history.extension priority application
line_by history line (LeftOut note) = left_out Nothing (note_kind note)
line_by history line Other = stands line

-- a line, given what the lines before it say
unfoldable pub line_reading : LineHistoryOf → List ℕ → ContextReading
line_reading history line = line_by history line (context_line (content_of line))

-- ---- the section

-- a line at its place, if there is one
abbrev pub line_at : ℕ → Option SourceLine → List (ℕ × List ℕ)
line_at place None = []
line_at place (Some line) = (place, line.text) ∷ []

-- the lines of a section, with their places among all lines
abbrev pub section_lines : List SourceLine → List ℕ → List (ℕ × List ℕ)
section_lines lines [] = []
section_lines lines (place ∷ places) = line_at place (slice_get lines place) ++ section_lines lines places

-- the result of each line, given the lines before it, of which the nearest comes first
abbrev pub all_made : List Said → List (ℕ × List ℕ) → List (ℕ × LineResult)
all_made before [] = []
all_made before (line ∷ lines) =
    (line.0, (line_reading (history_of before) line.1).made)
    ∷ all_made ((line_reading (history_of before) line.1).said ∷ before) lines

-- the resulting line, if it is not left out
abbrev pub made_line : ℕ × LineResult → List MadeLine
made_line made = option_to_list (option_map (λ text. record { source = made.0; text = text }) made.1.text)

-- the remark, if there is one
abbrev pub remark_on : ℕ × LineResult → List LineRemark
remark_on made = option_to_list (option_map (λ kind. record { source = made.0; kind = kind }) made.1.remark)

-- the lines made from the lines of a section, in order
unfoldable pub context_lines : List (ℕ × List ℕ) → List MadeLine
context_lines lines = flat_map made_line (all_made [] lines)

-- the remarks on the lines of a section, in order
unfoldable pub context_remarks : List (ℕ × List ℕ) → List LineRemark
context_remarks lines = flat_map remark_on (all_made [] lines)
