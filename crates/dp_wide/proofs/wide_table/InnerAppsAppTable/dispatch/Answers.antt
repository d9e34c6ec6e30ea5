use Rattle.std.proofs.Common.{◌∙◌, ap}
use Rattle.dp_app.specs.Cells.{cell_now}
use Rattle.dp_wide.specs.Wide.{inner_table}
use Rattle.dp_wide.specs.steps.PlacedApplications.{placed_applications, rows_of}
use Rattle.dp_wide.proofs.PlacedLemmas.{inner_there, ran_part}
use Rattle.dp_wide.proofs.wide_table.InnerAppsAppTable.dispatch.Goals as goal

pub returns-in-Some-clause-ok : goal.returns-in-Some-clause-ok
unfolding placed_applications
returns-in-Some-clause-ok c =
    ran_part (rows_of placed_applications c.args.name.now) (inner_table.rows c.args.name.now) (inner_there c.args.name.now) c.args.arguments.now
    (cell_now c.args.cell.now) (cell_now c.dispatch.new.cell) c.in-Some.going
    (c.in_ok-going.ensures.ok ∙ ap (λ going. (cell_now c.dispatch.new.cell, going)) c.in-Some.is)
