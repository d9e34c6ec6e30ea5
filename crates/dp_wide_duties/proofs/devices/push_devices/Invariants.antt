use Rattle.std.proofs.Common.{◌≡◌, ◌++◌, length}
use Rattle.dp_closed.specs.Shown.{shown_duties}
use Rattle.dp_pieces.specs.Shown.{shown_all}
use Rattle.dp_wide_duties.specs.Devices.{devices_from, devices_owed}
use Rattle.dp_wide_duties.proofs.devices.push_devices.Given as goal

abbrev pub invariant-loop-first : goal.invariant-loop-first
invariant-loop-first l =
    shown_duties l.duties.items ++ devices_from l.begins (shown_all l.left) ≡ shown_duties l.fn.duties.items ++ devices_owed (shown_all l.fn.pieces)

abbrev pub decreases-loop-first : goal.decreases-loop-first
decreases-loop-first l = length l.left
