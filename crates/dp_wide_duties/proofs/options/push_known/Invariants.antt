use Rattle.std.proofs.Common.{◌≡◌, ◌++◌, length}
use Rattle.dp_closed.specs.Shown.{shown_area, shown_duties}
use Rattle.dp_pieces.specs.Shown.{shown_all}
use Rattle.dp_wide_duties.specs.Options.{known_owed}
use Rattle.dp_wide_duties.proofs.options.push_known.Given as goal

abbrev pub invariant-loop-first : goal.invariant-loop-first
invariant-loop-first l =
    shown_duties l.duties.items ++ known_owed (shown_area l.area) (shown_all l.left)
    ≡ shown_duties l.fn.duties.items ++ known_owed (shown_area l.area) (shown_all l.fn.options)

abbrev pub decreases-loop-first : goal.decreases-loop-first
decreases-loop-first l = length l.left
