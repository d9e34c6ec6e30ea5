use Rattle.std.proofs.Common.{◌≡◌, ◌++◌, drop}
use Rattle.std.specs.List.{flat_map}
use Rattle.dp_notices.specs.Loading.{note_at_source}
use Rattle.dp_notices.proofs.loading.push_notes.Given as goal

abbrev pub invariant-loop-note : goal.invariant-loop-note
invariant-loop-note l =
    l.notices.items ++ flat_map (note_at_source l.lines) (drop l.note-index l.notes)
    ≡ l.fn.notices.items ++ flat_map (note_at_source l.lines) l.notes
