use Rattle.std.proofs.Common.{◌∙◌, ap}
use Rattle.dp_app.specs.Cells.{cell_now}
use Rattle.dp_table.specs.Standard.{standard_table}
use Rattle.dp_table.proofs.RunLemmas.{ran_first}
use Rattle.dp_table.proofs.standard.StandardAppsAppTable.run_by_number.Goals as goal

pub returns-in-Some-clause-ok : goal.returns-in-Some-clause-ok
unfolding standard_table
returns-in-Some-clause-ok c =
    ran_first c.args.number.place c.args.name.now c.args.arguments.now (cell_now c.args.cell.now) (cell_now c.run_at.new.cell) c.in-Some.going
    (c.in_ok-going.ensures.ok ∙ ap (λ going. (cell_now c.run_at.new.cell, going)) c.in-Some.is)
