use Rattle.std.proofs.Common.{◌≡◌}
use Rattle.dp_conf.specs.Levels.{parts_of}
use Rattle.dp_conf.proofs.LinesLemmas.{left_len}
use Rattle.dp_app.specs.Cells.{KeepsLoans, cell_now}
use Rattle.dp_wide.specs.Settings.{settable_of, with_each, with_settable}
use Rattle.dp_wide.specs.steps.PartsLeft.{parts_left}
use Rattle.dp_wide.proofs.settings.set_names.Given as goal

-- setting the remaining names to the remaining values gives what all of them give at first
abbrev pub invariant-loop-rest : goal.invariant-loop-rest
invariant-loop-rest l =
    (with_settable (cell_now l.cell) (with_each (settable_of (cell_now l.cell)) (parts_left l.rest) (parts_left l.values))
    ≡ with_settable (cell_now l.fn.cell) (with_each (settable_of (cell_now l.fn.cell)) (parts_of l.fn.names) (parts_of l.fn.values)))
    × KeepsLoans l.fn.cell l.cell

abbrev pub decreases-loop-rest : goal.decreases-loop-rest
decreases-loop-rest l = left_len l.rest
