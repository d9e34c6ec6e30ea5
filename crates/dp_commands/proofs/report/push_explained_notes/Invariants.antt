use Rattle.std.proofs.Common.{◌≡◌, ◌++◌, drop, map}
use Rattle.std.specs.List.{flat_map}
use Rattle.dp_commands.specs.Report.{explained_note}
use Rattle.dp_commands.proofs.report.push_explained_notes.Given as goal

abbrev pub invariant-loop-note : goal.invariant-loop-note
invariant-loop-note l =
    l.out.begun ++ flat_map (explained_note l.path (map (λ line. line.now) l.lines)) (drop l.note-index l.notes)
    ≡ l.fn.out.begun ++ flat_map (explained_note l.path (map (λ line. line.now) l.lines)) l.notes
