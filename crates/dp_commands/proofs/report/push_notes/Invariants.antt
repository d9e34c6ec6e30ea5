use Rattle.std.proofs.Common.{◌≡◌, ◌++◌, drop}
use Rattle.std.specs.List.{flat_map}
use Rattle.dp_commands.specs.Report.{note_line}
use Rattle.dp_commands.proofs.report.push_notes.Given as goal

abbrev pub invariant-loop-note : goal.invariant-loop-note
invariant-loop-note l = l.out.begun ++ flat_map note_line (drop l.note-index l.notes) ≡ l.fn.out.begun ++ flat_map note_line l.notes
