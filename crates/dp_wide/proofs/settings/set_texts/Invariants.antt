use Rattle.std.proofs.Common.{◌≡◌, fold, map}
use Rattle.dp_conf.specs.Blanks.{trim}
use Rattle.dp_conf.specs.Levels.{parts_of}
use Rattle.dp_conf.proofs.LinesLemmas.{left_len}
use Rattle.dp_app.specs.Cells.{KeepsLoans, cell_now}
use Rattle.dp_wide.specs.Settings.{settable_of, with_settable, with_text}
use Rattle.dp_wide.specs.steps.PartsLeft.{parts_left}
use Rattle.dp_wide.proofs.settings.set_texts.Given as goal

-- the remaining settings give what all of them give at first
abbrev pub invariant-loop-rest : goal.invariant-loop-rest
invariant-loop-rest l =
    (with_settable (cell_now l.cell) (fold with_text (settable_of (cell_now l.cell)) (map trim (parts_left l.rest)))
    ≡ with_settable (cell_now l.fn.cell) (fold with_text (settable_of (cell_now l.fn.cell)) (map trim (parts_of l.fn.texts))))
    × KeepsLoans l.fn.cell l.cell

abbrev pub decreases-loop-rest : goal.decreases-loop-rest
decreases-loop-rest l = left_len l.rest
