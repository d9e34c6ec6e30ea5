-- The items of a dialplan's lines: sections that begin, global variables, entries, includes, and keys that contexts do not have.
use Rattle.std.specs.Prelude.{ℕ, ◌||◌, ◌==◌, List, [], ◌∷◌, ◌++◌, Option, Some, None, Result, Ok, Err, codes, if◌then◌else◌}
use Rattle.std.specs.List.{list_any}
use Rattle.std.specs.Str.{byte}
use Rattle.dp_conf.specs.Answers.{◌>>=◌, with_front}
use Rattle.dp_conf.specs.Lines.{LineOf, Header, Pair}
use Rattle.dp_conf.specs.Words.{same_word}
use Rattle.dp_plan.specs.EntryLine.{shallow_at, exten_entry, same_entry}
use Rattle.dp_plan.specs.Faults.{plan_fault}
use Rattle.dp_plan.specs.History.{PlanHistory, history_of}
use Rattle.dp_plan.specs.declared.entry.Entry.{Entry}
use Rattle.dp_plan.specs.declared.fault.Word.TheVariants.{Switch, IgnorePat, IncludeTimes}
use Rattle.dp_plan.specs.declared.fault.PlanKind.{PlanKind}
use Rattle.dp_plan.specs.declared.fault.PlanKind.TheVariants.{LeftOut}
use Rattle.dp_plan.specs.declared.fault.LoadFault.{LoadFault}
use Rattle.dp_plan.specs.declared.section.Section.{Section}
use Rattle.dp_plan.specs.declared.section.Section.TheVariants.{General, Globals, Context}
use Rattle.dp_plan.specs.Item.{Item, Begins, Sets, Adds, Includes, Unknown}

-- the section of a header
abbrev pub section_named : List ℕ → Section
section_named name =
    if same_word name (codes "general") then General
    else if same_word name (codes "globals") then Globals
    else Context name

-- a global variable; an empty key sets none, whatever its value
abbrev pub global_item : ℕ → List ℕ → List ℕ → Result Item LoadFault
global_item line [] value = Ok (Unknown line)
global_item line (k ∷ key) value =
    shallow_at line value >>= λ shallow. Ok (Sets (record { name = k ∷ key; value = shallow }))

-- an include of one context, without times
abbrev pub include_item : ℕ → List ℕ → List ℕ → Result Item LoadFault
include_item line context name =
    if list_any (λ b. b == byte ",") name then Err (plan_fault line (LeftOut IncludeTimes)) else Ok (Includes line context name)

-- the reason why a key is refused, if it is one of the unsupported ones
abbrev pub refused_key : List ℕ → Option PlanKind
refused_key key =
    if same_word key (codes "switch") || same_word key (codes "lswitch") || same_word key (codes "eswitch")
    then Some (LeftOut Switch)
    else if same_word key (codes "ignorepat") then Some (LeftOut IgnorePat)
    else None

-- a pair that has no meaning in a context
abbrev pub other_item : ℕ → Option PlanKind → Result Item LoadFault
other_item line (Some kind) = Err (plan_fault line kind)
other_item line None = Ok (Unknown line)

-- the entry of a line is added to the context
abbrev pub entry_item : List ℕ → ℕ → Result Entry LoadFault → Result Item LoadFault
entry_item context line entry = entry >>= λ e. Ok (Adds line context e)

-- a pair of a context
unfoldable pub context_item : PlanHistory → List ℕ → ℕ → List ℕ → List ℕ → Result Item LoadFault
context_item history context line key value =
    if same_word key (codes "exten") then entry_item context line (exten_entry history line context value)
    else if same_word key (codes "same") then entry_item context line (same_entry history line context value)
    else if same_word key (codes "include") then include_item line context value
    else other_item line (refused_key key)

-- the item, or the fault
abbrev pub just : Result Item LoadFault → Result (List Item) LoadFault
just item = item >>= λ i. Ok (i ∷ [])

-- a pair, given its section; settings have no item
abbrev pub pair_item : PlanHistory → Section → ℕ → List ℕ → List ℕ → Result (List Item) LoadFault
pair_item history General line key value = Ok []
pair_item history Globals line key value = just (global_item line key value)
pair_item history (Context name) line key value = just (context_item history name line key value)

-- the item of a line, or the line's fault, given what the lines before it say
abbrev pub line_item : PlanHistory → LineOf → Result (List Item) LoadFault
line_item history (Header line name) = Ok (Begins (section_named name) ∷ [])
line_item history (Pair line key value) = pair_item history history.section line key value

-- the items of lines, each line read with the items of those before it, or the fault of the first faulty line
abbrev pub items_after : List Item → List LineOf → Result (List Item) LoadFault
items_after before [] = Ok []
items_after before (line ∷ lines) =
    line_item (history_of before) line >>= λ item. with_front item (items_after (before ++ item) lines)
