-- The objects of the notes on loading a dialplan, and of its counts.
use Rattle.std.specs.Prelude.{ℕ, List, [], ◌∷◌, codes}
use Rattle.std.specs.List.{flat_map}
use Rattle.dp_plan.specs.Codes.{note_name}
use Rattle.dp_plan.specs.declared.note.Note.{Note}
use Rattle.dp_json.specs.Objects.{Field, number_field, object_text, text_field, type_field}

-- the object of a note
abbrev pub note_object : Note → List Field
note_object note =
    type_field (codes "note") ∷ number_field (codes "line") note.line ∷ text_field (codes "kind") (note_name note.kind) ∷ []

-- the line of a note
unfoldable pub note_line : Note → List ℕ
note_line note = object_text (note_object note)

-- the lines of notes, in their order
abbrev pub notes_text : List Note → List ℕ
notes_text notes = flat_map note_line notes

-- the object of the counts of a dialplan that loads
abbrev pub counts_object : ℕ → ℕ → List Field
counts_object contexts entries =
    type_field (codes "count") ∷ number_field (codes "contexts") contexts ∷ number_field (codes "entries") entries ∷ []
