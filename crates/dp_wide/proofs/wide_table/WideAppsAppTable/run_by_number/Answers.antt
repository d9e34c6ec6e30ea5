use Rattle.std.proofs.Common.{◌∙◌, ap}
use Rattle.dp_app.specs.Cells.{cell_now}
use Rattle.dp_app.specs.Listed.{row_at}
use Rattle.dp_wide.specs.Wide.{wide_rows}
use Rattle.dp_wide.specs.steps.PlacedApplications.{placed_applications}
use Rattle.dp_wide.proofs.PlacedLemmas.{placed_there, ran_part}
use Rattle.dp_wide.proofs.wide_table.WideAppsAppTable.run_by_number.Goals as goal

pub returns-in-Some-clause-ok : goal.returns-in-Some-clause-ok
unfolding placed_applications
returns-in-Some-clause-ok c =
    ran_part (row_at placed_applications c.args.number.place c.args.name.now) (wide_rows c.args.name.now)
    (placed_there c.args.number.place c.args.name.now) c.args.arguments.now
    (cell_now c.args.cell.now) (cell_now c.run_at.new.cell) c.in-Some.going
    (c.in_ok-going.ensures.ok ∙ ap (λ going. (cell_now c.run_at.new.cell, going)) c.in-Some.is)
