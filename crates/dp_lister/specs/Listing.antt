-- The canonical listing of a dialplan, which is one way to write it.
use Rattle.std.specs.Prelude.{ℕ, List, [], ◌∷◌, ◌++◌, map, Option, None, Some, codes, decimal}
use Rattle.std.specs.List.{flat_map}
use Rattle.dp_conf.specs.Escape.{escape_text}
use Rattle.dp_conf.specs.Lines.{line_feed}
use Rattle.dp_pattern.specs.Spelling.{spelling}
use Rattle.dp_plan.specs.Contexts.{PlanContext}
use Rattle.dp_plan.specs.Plan.{PlanOf}
use Rattle.dp_plan.specs.declared.entry.Entry.{Entry}
use Rattle.dp_plan.specs.declared.plan.GlobalVariable.{GlobalVariable}

-- the line of a global variable
abbrev pub global_line : GlobalVariable → List ℕ
global_line global = global.name ++ codes " => " ++ global.value

-- the lines of the global variables below their header, which is left out if there are none
abbrev pub global_lines : List GlobalVariable → List (List ℕ)
global_lines [] = []
global_lines (global ∷ globals) = codes "[globals]" ∷ map global_line (global ∷ globals)

-- a label, in parentheses after its priority
abbrev pub label_text : Option (List ℕ) → List ℕ
label_text None = []
label_text (Some label) = codes "(" ++ label ++ codes ")"

-- a priority with its label, if it has one
abbrev pub priority_text : ℕ → Option (List ℕ) → List ℕ
priority_text priority label = decimal priority ++ label_text label

-- an application with its arguments
abbrev pub application_text : List ℕ → List ℕ → List ℕ
application_text name arguments = name ++ codes "(" ++ arguments ++ codes ")"

-- the line of an entry after its name: the priority and the application
abbrev pub after_name : Entry → List ℕ
after_name entry =
    codes "," ++ priority_text entry.priority entry.label ++ codes "," ++ application_text entry.application entry.arguments

-- the line of an entry, with its name in the canonical spelling
abbrev pub entry_line : Entry → List ℕ
entry_line entry = codes "exten => " ++ spelling entry.name ++ after_name entry

-- the line of an include
abbrev pub include_line : List ℕ → List ℕ
include_line name = codes "include => " ++ name

-- the header of a context
abbrev pub header_line : List ℕ → List ℕ
header_line name = codes "[" ++ name ++ codes "]"

-- the lines of a context: its header, its entries and its includes
abbrev pub context_lines : PlanContext → List (List ℕ)
context_lines context = header_line context.name ∷ map entry_line context.entries ++ map include_line context.includes

-- the lines of a dialplan: its global variables, and then its contexts
abbrev pub plan_lines : PlanOf → List (List ℕ)
plan_lines plan = global_lines plan.globals ++ flat_map context_lines plan.contexts

-- a line as written: each `;` as `\;`, and a line feed at its end
abbrev pub line_text : List ℕ → List ℕ
line_text line = escape_text line ++ line_feed ∷ []

-- lines one after another
abbrev pub text_of : List (List ℕ) → List ℕ
text_of lines = flat_map line_text lines

-- the lines of contexts
abbrev pub contexts_text : List PlanContext → List ℕ
contexts_text contexts = text_of (flat_map context_lines contexts)

-- the listing of a dialplan
unfoldable pub listing : PlanOf → List ℕ
listing plan = text_of (plan_lines plan)
