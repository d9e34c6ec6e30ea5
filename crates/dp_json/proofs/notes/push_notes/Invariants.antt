use Rattle.std.proofs.Common.{◌≡◌, ◌++◌, drop}
use Rattle.dp_json.specs.Notes.{notes_text}
use Rattle.dp_json.proofs.notes.push_notes.Given as goal

-- with the lines of the rest, all lines are added
abbrev pub invariant-loop-note : goal.invariant-loop-note
invariant-loop-note l = l.out.items ++ notes_text (drop l.note-index l.notes) ≡ l.fn.out.items ++ notes_text l.notes
