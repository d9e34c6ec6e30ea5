-- A dialplan, and how it is made from the items of its lines.
use Rattle.std.specs.Prelude.{ℕ, Bool, false, ◌&&◌, ◌||◌, ◌==◌, List, [], ◌∷◌, ◌++◌, Option, Some, None, map, filter, if◌then◌else◌}
use Rattle.std.specs.List.{list_any, filter_map, flat_map}
use Rattle.dp_conf.specs.Answers.{each_after}
use Rattle.dp_conf.specs.Words.{same_text}
use Rattle.dp_plan.specs.Contexts.{PlanContext}
use Rattle.dp_plan.specs.Extensions.{same_name}
use Rattle.dp_plan.specs.declared.entry.Entry.{Entry}
use Rattle.dp_plan.specs.declared.plan.GlobalVariable.{GlobalVariable}
use Rattle.dp_plan.specs.declared.note.Note.{Note}
use Rattle.dp_plan.specs.declared.note.NoteKind.TheVariants.{DoublePriority, DoubleLabel, UnknownContext, UnknownKey}
use Rattle.dp_plan.specs.declared.section.Section.{Section}
use Rattle.dp_plan.specs.declared.section.Section.TheVariants.{General, Globals, Context}
use Rattle.dp_plan.specs.Item.{Item, Begins, Sets, Adds, Includes, Unknown}

-- a dialplan: its global variables in file order, and its contexts in the order of first appearance
pub record PlanOf : Type 0 where
  pub globals : List GlobalVariable
  pub contexts : List PlanContext

-- an entry that a line adds to a context
pub record Addition : Type 0 where
  pub context : List ℕ
  pub entry : Entry

-- the name of a context that a line includes in a context
pub record Inclusion : Type 0 where
  pub context : List ℕ
  pub name : List ℕ

-- two entries are of one extension: the same context and name
abbrev pub of_one_extension : Addition → Addition → Bool
of_one_extension a b = same_text a.context b.context && same_name a.entry.name b.entry.name

-- two entries have the same place: the same extension and priority
abbrev pub same_place : Addition → Addition → Bool
same_place a b = of_one_extension a b && a.entry.priority == b.entry.priority

-- both have a label, and it is the same
abbrev pub shares_label : Option (List ℕ) → Option (List ℕ) → Bool
shares_label None other = false
shares_label (Some label) None = false
shares_label (Some label) (Some other) = same_text label other

-- two entries of one extension have the same label
abbrev pub same_label : Addition → Addition → Bool
same_label a b = of_one_extension a b && shares_label a.entry.label b.entry.label

-- the place of an entry, or its label, is taken by one before it
abbrev pub is_place_taken : List Addition → Addition → Bool
is_place_taken before addition = list_any (same_place addition) before

abbrev pub is_label_taken : List Addition → Addition → Bool
is_label_taken before addition = list_any (same_label addition) before

abbrev pub is_taken : List Addition → Addition → Bool
is_taken before addition = is_place_taken before addition || is_label_taken before addition

-- the name is among those before
abbrev pub is_named : List (List ℕ) → List ℕ → Bool
is_named before name = list_any (same_text name) before

-- the elements that are not taken by one of those kept before them
abbrev pub kept_by : {X : Type 0} → (List X → X → Bool) → List X → List X → List X
kept_by taken before [] = []
kept_by taken before (x ∷ xs) =
    if taken before x then kept_by taken before xs else x ∷ kept_by taken (before ++ x ∷ []) xs

-- the entry that an item adds
abbrev pub added_in : Item → Option Addition
added_in (Begins section) = None
added_in (Sets global) = None
added_in (Adds line context entry) = Some (record { context = context; entry = entry })
added_in (Includes line context name) = None
added_in (Unknown line) = None

-- the include that an item adds
abbrev pub included_in : Item → Option Inclusion
included_in (Begins section) = None
included_in (Sets global) = None
included_in (Adds line context entry) = None
included_in (Includes line context name) = Some (record { context = context; name = name })
included_in (Unknown line) = None

-- the context of a section
abbrev pub section_name : Section → Option (List ℕ)
section_name General = None
section_name Globals = None
section_name (Context name) = Some name

-- the context to which an item belongs
abbrev pub context_in : Item → Option (List ℕ)
context_in (Begins section) = section_name section
context_in (Sets global) = None
context_in (Adds line context entry) = Some context
context_in (Includes line context name) = Some context
context_in (Unknown line) = None

-- the global variable that an item sets
abbrev pub global_in : Item → Option GlobalVariable
global_in (Begins section) = None
global_in (Sets global) = Some global
global_in (Adds line context entry) = None
global_in (Includes line context name) = None
global_in (Unknown line) = None

-- the entries that are kept, of all contexts: the first at each place, unless its label is taken
abbrev pub kept_in : List Item → List Addition
kept_in items = kept_by is_taken [] (filter_map added_in items)

-- the names of the contexts, in the order of first appearance
abbrev pub names_in : List Item → List (List ℕ)
names_in items = kept_by is_named [] (filter_map context_in items)

-- the context with a name, with its entries among those that are kept, and its includes
abbrev pub context_of : List Addition → List Inclusion → List ℕ → PlanContext
context_of kept included name = record {
  name = name;
  entries = map (λ a. a.entry) (filter (λ a. same_text name a.context) kept);
  includes = map (λ i. i.name) (filter (λ i. same_text name i.context) included);
}

-- the dialplan of the items
unfoldable pub plan_of : List Item → PlanOf
plan_of items = record {
  globals = filter_map global_in items;
  contexts = map (context_of (kept_in items) (filter_map included_in items)) (names_in items);
}

-- the line of an entry that is kept in a context
pub record KeptLine : Type 0 where
  pub context : List ℕ
  pub line : ℕ

-- the line of an entry, unless a kept entry has its priority or its label
abbrev pub entry_line : ℕ → List Addition → Addition → List KeptLine
entry_line line kept addition = if is_taken kept addition then [] else (record { context = addition.context; line = line }) ∷ []

-- the line of an item that adds an entry, if the entry is kept after the items before it
abbrev pub kept_line : List Item → Item → List KeptLine
kept_line before (Begins section) = []
kept_line before (Sets global) = []
kept_line before (Adds line context entry) = entry_line line (kept_in before) (record { context = context; entry = entry })
kept_line before (Includes line context name) = []
kept_line before (Unknown line) = []

-- the lines of the kept entries, of all contexts
abbrev pub kept_lines : List Item → List KeptLine
kept_lines items = flat_map (λ lines. lines) (each_after kept_line [] items)

-- those of the entries of the context with a name
abbrev pub context_lines : List KeptLine → List ℕ → List ℕ
context_lines kept name = map (λ k. k.line) (filter (λ k. same_text name k.context) kept)

-- the lines of the entries of each context in the dialplan of the items, in the order of its contexts and their entries
unfoldable pub entry_lines_of : List Item → List (List ℕ)
entry_lines_of items = map (context_lines (kept_lines items)) (names_in items)

-- the note on a dropped entry: a kept entry has its priority or its label
abbrev pub entry_note : ℕ → List Addition → Addition → List Note
entry_note line kept addition =
    if is_place_taken kept addition then (record { line = line; kind = DoublePriority }) ∷ []
    else if is_label_taken kept addition then (record { line = line; kind = DoubleLabel }) ∷ []
    else []

-- the note on an include if no context has the name
abbrev pub include_note : ℕ → List (List ℕ) → List ℕ → List Note
include_note line names name = if is_named names name then [] else (record { line = line; kind = UnknownContext }) ∷ []

-- the note on an item, given the names of all contexts and the items before it
abbrev pub note_of : List (List ℕ) → List Item → Item → List Note
note_of names before (Begins section) = []
note_of names before (Sets global) = []
note_of names before (Adds line context entry) =
    entry_note line (kept_in before) (record { context = context; entry = entry })
note_of names before (Includes line context name) = include_note line names name
note_of names before (Unknown line) = (record { line = line; kind = UnknownKey }) ∷ []

-- the notes on the items, in the order of their lines
unfoldable pub notes_of : List Item → List Note
notes_of items = flat_map (λ notes. notes) (each_after (note_of (names_in items)) [] items)
