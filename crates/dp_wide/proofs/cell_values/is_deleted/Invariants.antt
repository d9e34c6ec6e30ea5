use Rattle.std.proofs.Common.{◌≡◌, length}
use Rattle.std.specs.List.{list_any}
use Rattle.dp_vars.specs.Sights.{sight_of}
use Rattle.dp_wide.specs.CellValues.{is_deleted, is_root_deleted, roots_from}
use Rattle.dp_wide.proofs.cell_values.is_deleted.Given as goal

-- no key above that was passed was deleted
abbrev pub invariant-loop-byte : goal.invariant-loop-byte
invariant-loop-byte g l =
    list_any (is_root_deleted (sight_of g.C.Counts.count l.scope)) (roots_from l.front.items l.left)
    ≡ is_deleted (sight_of g.C.Counts.count l.scope) l.key

abbrev pub decreases-loop-byte : goal.decreases-loop-byte
decreases-loop-byte g l = length l.left
