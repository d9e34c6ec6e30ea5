-- The entries that end macros. In Asterisk a macro ends where a step finds nothing, and the call goes on after `Macro`. So an entry
-- `MacroExit()` is added after each entry of a macro after which a step would find nothing.
use Rattle.std.specs.Prelude.{ℕ, ◌+◌, ◌-◌, Bool, not, ◌&&◌, ◌==◌, nat_eq, nat_lt, List, [], ◌∷◌, ◌++◌, length, Option, Some, None, is_some, slice_get, Result, Ok, Err, codes, decimal, if◌then◌else◌}
use Rattle.std.specs.List.{flat_map, list_any, range_with_len, starts_with}
use Rattle.std.specs.Option.{option_map_or}
use Rattle.dp_conf.specs.Escape.{escape_text}
use Rattle.dp_conf.specs.Numbers.{most_priority}
use Rattle.dp_conf.specs.Words.{same_word}
use Rattle.dp_files.specs.DialplanText.{text_of}
use Rattle.dp_files.specs.declared.source_line.MadeLine.{MadeLine}
use Rattle.dp_lookup.specs.FoundEntry.{entries_at, found_entry}
use Rattle.dp_lookup.specs.SearchOrder.{search_order}
use Rattle.dp_notices.specs.Loading.{faults_in_text, without_faulty}
use Rattle.dp_notices.specs.declared.macro_ends.AddedLine.{AddedLine}
use Rattle.dp_pattern.specs.Name.{Meaning, Plain, Pattern}
use Rattle.dp_pattern.specs.Spelling.{spelling}
use Rattle.dp_plan.specs.Contexts.{PlanContext}
use Rattle.dp_plan.specs.Extensions.{same_name}
use Rattle.dp_plan.specs.Loaded.{plan_and_notes, lines_loaded}
use Rattle.dp_plan.specs.Lookup.{entry_at, line_at}
use Rattle.dp_plan.specs.Plan.{PlanOf}
use Rattle.dp_plan.specs.Ranking.{ids_of}
use Rattle.dp_plan.specs.declared.entry.Entry.{Entry}
use Rattle.dp_plan.specs.declared.entry.EntryId.{EntryId}
use Rattle.dp_plan.specs.declared.fault.LoadFault.{LoadFault}
use Rattle.dp_plan.specs.declared.note.Note.{Note}

-- ---- the entries after which a macro ends

-- whether a context with this name is a macro
abbrev pub is_macro : List ℕ → Bool
is_macro name = starts_with nat_eq name (codes "macro-")

-- whether an entry is `MacroExit`, and so leaves its macro itself
abbrev pub is_exit : Entry → Bool
is_exit entry = same_word entry.application (codes "MacroExit")

-- whether an entry has this name and this priority
abbrev pub has_place : Meaning → ℕ → Entry → Bool
has_place name priority entry = same_name entry.name name && entry.priority == priority

-- whether a step to a priority of an extension finds an entry, given the search order and the entries of its context: a plain name is
-- looked up; a pattern needs an entry of the same pattern in the context, because it is not known what was dialled
abbrev pub is_found : PlanOf → List ℕ → List Entry → ℕ → Meaning → Bool
is_found plan order entries priority (Plain text) = is_some (found_entry plan order text priority)
is_found plan order entries priority (Pattern classes tail) = list_any (has_place (Pattern classes tail) priority) entries

-- whether a macro ends after an entry of its context
abbrev pub is_last : PlanOf → List ℕ → List Entry → Entry → Bool
is_last plan order entries entry =
    nat_lt entry.priority most_priority && not (is_exit entry)
    && not (is_found plan order entries (entry.priority + 1) entry.name)

-- ---- the lines that are added

-- the line that adds `MacroExit` after an entry
abbrev pub end_text : Entry → List ℕ
end_text entry =
    codes "exten => " ++ escape_text (spelling entry.name) ++ codes "," ++ decimal (entry.priority + 1) ++ codes ",MacroExit()"

-- the header of a context
abbrev pub header_text : List ℕ → List ℕ
header_text name = codes "[" ++ escape_text name ++ codes "]"

-- a line with this text, for the line with a number, if a number is given
abbrev pub added_at : List ℕ → Option ℕ → List AddedLine
added_at text None = []
added_at text (Some line) = record { line = line; text = text } ∷ []

-- the line for an entry and its number, if a macro ends after it
abbrev pub end_by : PlanOf → List (List ℕ) → List ℕ → EntryId → Entry → List AddedLine
end_by plan lines order id entry =
    if is_last plan order (entries_at plan id.context) entry then added_at (end_text entry) (line_at lines id) else []

-- the same for the entry with these numbers
abbrev pub end_at : PlanOf → List (List ℕ) → List ℕ → EntryId → List AddedLine
end_at plan lines order id = option_map_or (end_by plan lines order id) (entry_at plan id) []

-- the added lines of a context after its header, if there are any
abbrev pub with_header : List ℕ → List AddedLine → List AddedLine
with_header name [] = []
with_header name (end ∷ ends) = record { line = end.line; text = header_text name } ∷ end ∷ ends

-- the added lines for the entries of the context with a number, in the order of the file
abbrev pub ends_in : PlanOf → List (List ℕ) → ℕ → PlanContext → List AddedLine
ends_in plan lines number context =
    flat_map (end_at plan lines (search_order plan context.name)) (ids_of number context.entries)

-- the same after a header, if the context is a macro
abbrev pub ends_of_context : PlanOf → List (List ℕ) → ℕ → PlanContext → List AddedLine
ends_of_context plan lines number context =
    if is_macro context.name then with_header context.name (ends_in plan lines number context) else []

-- the same for the context with a number
abbrev pub ends_at : PlanOf → List (List ℕ) → ℕ → List AddedLine
ends_at plan lines number = option_map_or (ends_of_context plan lines number) (slice_get plan.contexts number) []

-- the added lines for all contexts of a dialplan, given the lines of its entries
unfoldable pub ends_of : PlanOf → List (List ℕ) → List AddedLine
ends_of plan lines = flat_map (ends_at plan lines) (range_with_len 0 (length plan.contexts))

-- the added lines for what a text loads as; no lines if it does not load
abbrev pub ends_by : Result (PlanOf × List Note) LoadFault → Result (List (List ℕ)) LoadFault → List AddedLine
ends_by (Ok read) (Ok lines) = ends_of read.0 lines
ends_by (Ok read) (Err fault) = []
ends_by (Err fault) lines = []

-- the same, given the text
abbrev pub ends_of_text : List ℕ → List AddedLine
ends_of_text text = ends_by (plan_and_notes text) (lines_loaded text)

-- ---- the lines of a dialplan with the added ones

-- each line with a fault is made empty
abbrev pub faultless : List MadeLine → List MadeLine
faultless lines = without_faulty (faults_in_text (text_of lines)) lines

-- a line with this text and the source of another line, if there is one
abbrev pub made_from : List ℕ → Option MadeLine → List MadeLine
made_from text None = []
made_from text (Some line) = record { source = line.source; text = text } ∷ []

-- an added line, made from the same line of a file as the entry before it
abbrev pub made_end : List MadeLine → AddedLine → List MadeLine
made_end lines added = made_from added.text (slice_get lines (added.line - 1))

-- the added lines
abbrev pub made_ends : List MadeLine → List AddedLine → List MadeLine
made_ends lines added = flat_map (made_end lines) added

-- the lines, and after them those that end macros
unfoldable pub with_ends : List MadeLine → List MadeLine
with_ends lines = lines ++ made_ends (faultless lines) (ends_of_text (text_of (faultless lines)))
