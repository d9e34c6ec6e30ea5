use Rattle.std.proofs.Common.{◌∙◌, ap}
use Rattle.dp_app.specs.Cells.{cell_now}
use Rattle.dp_app.specs.Tables.{no_rows}
use Rattle.dp_wide.specs.Outside.{with_outside}
use Rattle.dp_wide.specs.Wide.{wide_rows}
use Rattle.dp_wide.proofs.PlacedLemmas.{outside_there, ran_part}
use Rattle.dp_wide.proofs.wide_table.run_outside.Goals as goal

pub returns-in-Some-clause-ok : goal.returns-in-Some-clause-ok
returns-in-Some-clause-ok c =
    ran_part (with_outside no_rows c.args.name.now) (wide_rows c.args.name.now) (outside_there c.args.name.now) c.args.arguments.now
    (cell_now c.args.cell.now) (cell_now c.dispatch.new.cell) c.in-Some.going
    (c.in_ok-going.ensures.ok ∙ ap (λ going. (cell_now c.dispatch.new.cell, going)) c.in-Some.is)
