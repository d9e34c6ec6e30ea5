-- The parts are those of the arguments.
use Rattle.std.proofs.Common.{ap, sym, ◌∙◌, map}
use Rattle.dp_app.specs.Cells.{cell_now}
use Rattle.dp_qapps.specs.Queueing.{queue_by, queue_row}
use Rattle.dp_qapps.proofs.queueing.QueueAppApplication.apply.Goals as goal

pub returns-clause-ok : goal.returns-clause-ok
unfolding queue_row
returns-clause-ok c =
    ap (λ parts. queue_by parts (cell_now c.args.cell.now)) (sym c.in_ok-parts.ensures ∙ ap (map (λ part. part.now)) (sym c.deref.ensures.value))
    ∙ c.in_ok-going.ensures.ok
