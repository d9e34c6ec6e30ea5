-- A step of the code: a dialplan under construction, and the effect of one more item. The result of all items, one
-- after another, is `plan_of`, `notes_of` and `entry_lines_of` of Plan.
use Rattle.std.specs.Prelude.{ℕ, Bool, false, ◌&&◌, ◌==◌, List, [], ◌∷◌, ◌++◌, Option, Some, None, if◌then◌else◌}
use Rattle.std.specs.List.{list_any, position_or_len}
use Rattle.std.specs.Option.{option_to_list, option_map}
use Rattle.dp_conf.specs.Changes.{changed_at}
use Rattle.dp_conf.specs.Words.{same_text}
use Rattle.dp_plan.specs.Contexts.{PlanContext, with_entry, with_include}
use Rattle.dp_plan.specs.steps.Numbers.{with_number}
use Rattle.dp_plan.specs.steps.Places.{same_slot}
use Rattle.dp_plan.specs.steps.Table.{Table, number_in}
use Rattle.dp_plan.specs.Extensions.{extension_of}
use Rattle.dp_plan.specs.Plan.{is_named, include_note}
use Rattle.dp_plan.specs.declared.taken_places.Slot.{Slot}
use Rattle.dp_plan.specs.declared.label.Label.{Label}
use Rattle.dp_plan.specs.declared.remark.Remark.{Remark}
use Rattle.dp_plan.specs.declared.remark.Remark.TheVariants.{Noted, Asks}
use Rattle.dp_plan.specs.declared.entry.Entry.{Entry}
use Rattle.dp_plan.specs.declared.plan.GlobalVariable.{GlobalVariable}
use Rattle.dp_plan.specs.declared.note.Note.{Note}
use Rattle.dp_plan.specs.declared.note.NoteKind.{NoteKind}
use Rattle.dp_plan.specs.declared.note.NoteKind.TheVariants.{DoublePriority, DoubleLabel, UnknownKey}
use Rattle.dp_plan.specs.declared.section.Section.{Section}
use Rattle.dp_plan.specs.declared.section.Section.TheVariants.{General, Globals, Context}
use Rattle.dp_plan.specs.Item.{Item, Begins, Sets, Adds, Includes, Unknown}

-- the global variables, the contexts with their names, the numbers of their entries' extensions and the lines of their
-- entries, the taken places and labels, and the remarks so far
pub record Drafted : Type 0 where
  pub globals : List GlobalVariable
  pub names : List (List ℕ)
  pub contexts : List PlanContext
  pub numbers : List (List ℕ)
  pub lines : List (List ℕ)
  pub taken : List Slot
  pub labels : List Label
  pub remarks : List Remark

-- nothing so far
abbrev pub nothing : Drafted
nothing = record { globals = []; names = []; contexts = []; numbers = []; lines = []; taken = []; labels = []; remarks = [] }

-- two labels are the same, of the same extension
abbrev pub same_marked : Label → Label → Bool
same_marked a b = a.extension == b.extension && same_text a.label b.label

-- the place that an entry takes, given the number of its extension
abbrev pub slot_of : ℕ → Entry → Slot
slot_of number entry = record { extension = number; priority = entry.priority }

-- a label, given the number of its extension
abbrev pub label_in : ℕ → List ℕ → Label
label_in number label = record { extension = number; label = label }

-- the label that an entry takes, if it has one
abbrev pub label_of : ℕ → Entry → Option Label
label_of number entry = option_map (label_in number) entry.label

-- an empty context with a name
abbrev pub empty_context : List ℕ → PlanContext
empty_context name = record { name = name; entries = []; includes = [] }

-- the draft with the context, which is new or exists already
abbrev pub with_context : Drafted → List ℕ → Drafted
with_context d name =
    if is_named d.names name then d
    else record d {
      names = d.names ++ name ∷ [];
      contexts = d.contexts ++ empty_context name ∷ [];
      numbers = d.numbers ++ [] ∷ [];
      lines = d.lines ++ [] ∷ [];
    }

-- the place is taken
abbrev pub is_slot_taken : Drafted → Slot → Bool
is_slot_taken d slot = list_any (same_slot slot) d.taken

-- there is a label and it is taken
abbrev pub is_marked : Drafted → Option Label → Bool
is_marked d None = false
is_marked d (Some label) = list_any (same_marked label) d.labels

-- the draft with the label taken, if there is one and it is free
abbrev pub with_label : Drafted → Option Label → Drafted
with_label d label = if is_marked d label then d else record d { labels = d.labels ++ option_to_list label }

-- the draft with one more note
abbrev pub with_note : Drafted → ℕ → NoteKind → Drafted
with_note d line kind = record d { remarks = d.remarks ++ Noted (record { line = line; kind = kind }) ∷ [] }

-- the note on an entry whose place or label is taken
abbrev pub double_kind : Drafted → Slot → Option Label → Option NoteKind
double_kind d slot label =
    if is_slot_taken d slot then Some DoublePriority else if is_marked d label then Some DoubleLabel else None

-- the draft with the place and the label taken, unless one of them is taken already
abbrev pub take_place : Drafted → Slot → Option Label → Drafted
take_place d slot label =
    if is_slot_taken d slot then d
    else if is_marked d label then d
    else record d { taken = d.taken ++ slot ∷ []; labels = d.labels ++ option_to_list label }

-- the draft with the entry in the context at the place, unless its place or its label is taken
abbrev pub with_addition : Drafted → ℕ → ℕ → ℕ → Entry → Drafted
with_addition d line place number entry =
    if is_slot_taken d (slot_of number entry) then with_note d line DoublePriority
    else if is_marked d (label_of number entry) then with_note d line DoubleLabel
    else record d {
      contexts = changed_at (with_entry entry) place d.contexts;
      numbers = changed_at (with_number number) place d.numbers;
      lines = changed_at (with_number line) place d.lines;
      taken = d.taken ++ slot_of number entry ∷ [];
      labels = d.labels ++ option_to_list (label_of number entry);
    }

-- the draft with the include in the context at the place; only at the end is it known whether a context has the name
abbrev pub with_inclusion : Drafted → ℕ → ℕ → List ℕ → Drafted
with_inclusion d line place name = record d {
  contexts = changed_at (with_include name) place d.contexts;
  remarks = d.remarks ++ Asks line name ∷ [];
}

-- the draft with the context of a section, if it is one of a context
abbrev pub with_section : Drafted → Section → Drafted
with_section d General = d
with_section d Globals = d
with_section d (Context name) = with_context d name

-- the place of the context with a name, which exists already
abbrev pub place_of : Drafted → List ℕ → ℕ
place_of d name = position_or_len (same_text name) d.names

-- the draft with one more entry, or one more include, in the context with a name, which exists already
abbrev pub with_entry_of : Drafted → ℕ → List ℕ → ℕ → Entry → Drafted
with_entry_of d line context number entry = with_addition d line (place_of d context) number entry

abbrev pub with_include_of : Drafted → ℕ → List ℕ → List ℕ → Drafted
with_include_of d line context name = with_inclusion d line (place_of d context) name

-- the draft with one more item, given the numbers of the extensions of the items before it
abbrev pub with_item : Drafted → Table → Item → Drafted
with_item d table (Begins section) = with_section d section
with_item d table (Sets global) = record d { globals = d.globals ++ global ∷ [] }
with_item d table (Adds line context entry) =
    with_entry_of (with_context d context) line context (number_in table (extension_of context entry.name)) entry
with_item d table (Includes line context name) = with_include_of (with_context d context) line context name
with_item d table (Unknown line) = with_note d line UnknownKey

-- the note of a remark, given the names of all contexts
abbrev pub remark_notes : List (List ℕ) → Remark → List Note
remark_notes names (Noted note) = note ∷ []
remark_notes names (Asks line name) = include_note line names name
