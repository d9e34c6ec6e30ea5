use Rattle.std.proofs.Common.{take}
use Rattle.std.specs.List.{flat_map}
use Rattle.dp_diff.specs.Differences.{change_at}
use Rattle.dp_diff.specs.steps.Telling.{HasTold, writer_of}
use Rattle.dp_diff.proofs.telling.tell_all_changed.Given as goal

-- the differences at the entries so far are told
abbrev pub invariant-loop-place : goal.invariant-loop-place
invariant-loop-place g l =
    HasTold (writer_of (g.W.WriteTold.contents l.fn.writer) (g.W.WriteTold.has_failed l.fn.writer)) l.fn.sheet
    (writer_of (g.W.WriteTold.contents l.writer) (g.W.WriteTold.has_failed l.writer)) l.sheet
    (flat_map (change_at l.context l.after.keys) (take l.place-index l.before))
