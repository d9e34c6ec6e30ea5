-- Names with groups. Asterisk expands the name of an entry and of an include by the global variables when it reads the line.
use Rattle.std.specs.Prelude.{ℕ, Bool, true, false, not, ◌&&◌, ◌||◌, ◌==◌, List, [], ◌∷◌, ◌++◌, length, Option, Some, None, is_some, Result, Ok, Err, codes, if◌then◌else◌}
use Rattle.std.specs.FinMap.{empty, insert}
use Rattle.std.specs.List.{list_any}
use Rattle.std.specs.Option.{option_and_then, option_map}
use Rattle.std.specs.Str.{byte}
use Rattle.dp_conf.specs.Blanks.{trim}
use Rattle.dp_conf.specs.Cut.{cut_once}
use Rattle.dp_conf.specs.Escape.{escape_text}
use Rattle.dp_conf.specs.Lines.{LineOf, Header, Pair, content_of, item_of, line_feed}
use Rattle.dp_conf.specs.Words.{same_word}
use Rattle.dp_conf.specs.declared.fault.LineKind.{LineKind}
use Rattle.dp_files.specs.ContextHistory.{has_group, has_slash}
use Rattle.dp_files.specs.DialplanText.{text_of}
use Rattle.dp_files.specs.declared.remark.LineNote.TheVariants.{CallerId}
use Rattle.dp_files.specs.declared.source_line.MadeLine.{MadeLine}
use Rattle.dp_machine.specs.Seen.{global_value, no_queues, sight_of_globals}
use Rattle.dp_notices.specs.Loading.{without_text}
use Rattle.dp_notices.specs.MacroEnds.{faultless}
use Rattle.dp_notices.specs.declared.group_names.GroupNaming.{GroupNaming}
use Rattle.dp_notices.specs.declared.group_names.GroupNaming.TheVariants.{Stands, Renamed, LeftOut as left_out}
use Rattle.dp_notices.specs.declared.line_notices.NoticeAt.{NoticeAt}
use Rattle.dp_notices.specs.declared.notice.Notice.{Notice}
use Rattle.dp_notices.specs.declared.notice.Notice.TheVariants.{Read, Fault as fault_notice}
use Rattle.dp_notices.specs.declared.notice.NoticeFault.TheVariants.{Plan}
use Rattle.dp_plan.specs.Loaded.{plan_and_notes}
use Rattle.dp_plan.specs.Plan.{PlanOf}
use Rattle.dp_plan.specs.declared.fault.LoadFault.{LoadFault}
use Rattle.dp_plan.specs.declared.fault.PlanKind.TheVariants.{LeftOut}
use Rattle.dp_plan.specs.declared.fault.Word.TheVariants.{Variable}
use Rattle.dp_plan.specs.declared.note.Note.{Note}
use Rattle.dp_plan.specs.declared.plan.GlobalVariable.{GlobalVariable}
use Rattle.dp_vars.specs.Unknown.{first_unknown}
use Rattle.dp_vars.specs.Variables.{Named}
use Rattle.dp_wide.specs.Functions.{wide_functions}

-- ---- the lines of contexts

-- the items of a line that was read; none if it has a fault
abbrev pub items_of : Result (List LineOf) LineKind → List LineOf
items_of (Ok items) = items
items_of (Err kind) = []

-- the item of a line of a section, if there is one
abbrev pub items_in : List ℕ → List LineOf
items_in text = items_of (item_of true 0 (content_of text))

-- whether a section with this name is a context
abbrev pub is_context : List ℕ → Bool
is_context name = not (same_word name (codes "general")) && not (same_word name (codes "globals"))

-- whether the lines after an item belong to a context, given whether the item does
abbrev pub within_after : Bool → List LineOf → Bool
within_after within [] = within
within_after within (Header line name ∷ items) = is_context name
within_after within (Pair line key value ∷ items) = within

-- ---- the name in a line

-- the name in a value that is cut at its first comma
abbrev pub name_in : List ℕ → Option (List ℕ × List ℕ) → List ℕ
name_in value None = value
name_in value (Some cut) = trim cut.0

-- a comma and what follows it, if there is a comma
abbrev pub comma_before : Option (List ℕ) → List ℕ
comma_before None = []
comma_before (Some after) = byte "," ∷ after

-- what follows the name in the value, from the comma on
abbrev pub after_name : Option (List ℕ × List ℕ) → List ℕ
after_name cut = comma_before (option_map (λ c. c.1) cut)

-- whether a pair with this key has a name in its value: that of an extension, or that of an included context
abbrev pub has_name : List ℕ → Bool
has_name key = same_word key (codes "exten") || same_word key (codes "include")

-- whether a pair has a name with a group
abbrev pub is_grouped : List ℕ → List ℕ → Bool
is_grouped key value = has_name key && has_group (name_in value (cut_once (byte ",") value))

-- the line with a key, a name and what follows the name
abbrev pub named_text : List ℕ → List ℕ → List ℕ → List ℕ
named_text key name after = escape_text (key ++ codes " => " ++ name ++ after)

-- whether a byte ends a name in a line: a comma or a line feed
abbrev pub is_ending : ℕ → Bool
is_ending b = b == byte "," || b == line_feed

-- whether such a byte is in a name
abbrev pub has_ending : List ℕ → Bool
has_ending name = list_any is_ending name

-- whether a line can have this name: no comma and no line feed is in it, and no blank is at its ends
abbrev pub is_writable : List ℕ → Bool
is_writable name = not (has_ending name) && length (trim name) == length name

-- ---- what a line becomes

-- the fault of a name that is not known before a call
abbrev pub unknown_name : Notice
unknown_name = fault_notice (Plan (LeftOut Variable))

-- a text, expanded by the global variables, if everything in it is known
unfoldable pub known_text : Named → List ℕ → Option (List ℕ)
known_text globals text =
    if is_some (first_unknown wide_functions (sight_of_globals no_queues globals) text) then None
    else Some (global_value wide_functions no_queues globals text)

-- a name, expanded by the global variables, if everything in these and in it is known
abbrev pub known_name : Option Named → List ℕ → Option (List ℕ)
known_name globals name = option_and_then (λ known. known_text known name) globals

-- the notice of a line that is left out because of its expanded name, if it is: no line can have the name, or there is a caller's number
-- after it
abbrev pub name_notice : List ℕ → List ℕ → Option Notice
name_notice key name =
    if not (is_writable name) then Some unknown_name
    else if same_word key (codes "exten") && has_slash name then Some (Read CallerId)
    else None

-- what a pair becomes, given the line with its expanded name, and the notice of a line that is left out
abbrev pub naming_unless : Option Notice → List ℕ → GroupNaming
naming_unless None text = Renamed text
naming_unless (Some notice) text = left_out notice

-- what a pair becomes, given its key, its expanded name and what follows the name
abbrev pub naming_with : List ℕ → List ℕ → List ℕ → GroupNaming
naming_with key name after = naming_unless (name_notice key name) (named_text key name after)

-- the same, if the name is known
abbrev pub naming_by : List ℕ → Option (List ℕ) → List ℕ → GroupNaming
naming_by key None after = left_out unknown_name
naming_by key (Some name) after = naming_with key name after

-- what a pair of a context becomes, given its value cut at the first comma
abbrev pub naming_of_cut : Option Named → List ℕ → List ℕ → Option (List ℕ × List ℕ) → GroupNaming
naming_of_cut globals key value cut = naming_by key (known_name globals (name_in value cut)) (after_name cut)

-- what a line `same` becomes, given the notice with which its extension is left out, if it is
abbrev pub naming_of_same : Option Notice → GroupNaming
naming_of_same None = Stands
naming_of_same (Some notice) = left_out notice

-- what a pair of a context becomes, given that notice for the last extension before it; only a name with a group is changed
abbrev pub naming_of_pair : Option Named → Option Notice → List ℕ → List ℕ → GroupNaming
naming_of_pair globals extension key value =
    if same_word key (codes "same") then naming_of_same extension
    else if is_grouped key value then naming_of_cut globals key value (cut_once (byte ",") value)
    else Stands

-- what the line of an item becomes, given whether it belongs to a context, and the notice for the last extension before it
abbrev pub naming_of : Option Named → Bool → Option Notice → List LineOf → GroupNaming
naming_of globals within extension [] = Stands
naming_of globals within extension (Header line name ∷ items) = Stands
naming_of globals within extension (Pair line key value ∷ items) =
    if within then naming_of_pair globals extension key value else Stands

-- the notice of a line that is left out
abbrev pub notice_in : GroupNaming → Option Notice
notice_in Stands = None
notice_in (Renamed text) = None
notice_in (left_out notice) = Some notice

-- the notice for the last extension before the lines after an item, given the one before it and what its line becomes
abbrev pub extension_after : Option Notice → GroupNaming → List LineOf → Option Notice
extension_after extension naming [] = extension
extension_after extension naming (Header line name ∷ items) = None
extension_after extension naming (Pair line key value ∷ items) =
    if same_word key (codes "exten") then notice_in naming else extension

-- ---- the lines of a text

-- a line after this
abbrev pub line_by : GroupNaming → MadeLine → MadeLine
line_by Stands line = line
line_by (Renamed text) line = record { source = line.source; text = text }
line_by (left_out notice) line = without_text line

-- the notice on it
abbrev pub notice_by : GroupNaming → ℕ → List NoticeAt
notice_by Stands source = []
notice_by (Renamed text) source = []
notice_by (left_out notice) source = record { source = source; notice = notice } ∷ []

-- lines with their names expanded, given whether the first belongs to a context, and the notice for the last extension before it
abbrev pub lines_after : Option Named → Bool → Option Notice → List MadeLine → List MadeLine
lines_after globals within extension [] = []
lines_after globals within extension (line ∷ lines) =
    line_by (naming_of globals within extension (items_in line.text)) line
    ∷ lines_after globals (within_after within (items_in line.text))
    (extension_after extension (naming_of globals within extension (items_in line.text)) (items_in line.text)) lines

-- the notices on them
abbrev pub notices_after : Option Named → Bool → Option Notice → List MadeLine → List NoticeAt
notices_after globals within extension [] = []
notices_after globals within extension (line ∷ lines) =
    notice_by (naming_of globals within extension (items_in line.text)) line.source
    ++ notices_after globals (within_after within (items_in line.text))
    (extension_after extension (naming_of globals within extension (items_in line.text)) (items_in line.text)) lines

-- whether the line of an item has a name with a group
abbrev pub has_grouped : Bool → List LineOf → Bool
has_grouped within [] = false
has_grouped within (Header line name ∷ items) = false
has_grouped within (Pair line key value ∷ items) = within && is_grouped key value

-- whether one of some lines has a name with a group
abbrev pub any_grouped : Bool → List MadeLine → Bool
any_grouped within [] = false
any_grouped within (line ∷ lines) =
    has_grouped within (items_in line.text) || any_grouped (within_after within (items_in line.text)) lines

-- global variables after these, if everything in their values is known; each is expanded with those set before it
abbrev pub known_after : Named → List GlobalVariable → Option Named
known_after globals [] = Some globals
known_after globals (variable ∷ variables) =
    option_and_then (λ value. known_after (insert globals variable.name value) variables) (known_text globals variable.value)

-- the global variables of a text, if everything in their values is known; there are none if it does not load
abbrev pub globals_in : Result (PlanOf × List Note) LoadFault → Option Named
globals_in (Ok read) = known_after empty read.0.globals
globals_in (Err fault) = Some empty

-- the same for some lines, without those that have a fault
unfoldable pub globals_of_lines : List MadeLine → Option Named
globals_of_lines lines = globals_in (plan_and_notes (text_of (faultless lines)))

-- the lines of a text, with their names expanded by its global variables
unfoldable pub named_lines : List MadeLine → List MadeLine
named_lines lines = lines_after (globals_of_lines lines) false None lines

-- the notices on the names
unfoldable pub name_notices : List MadeLine → List NoticeAt
name_notices lines = notices_after (globals_of_lines lines) false None lines
