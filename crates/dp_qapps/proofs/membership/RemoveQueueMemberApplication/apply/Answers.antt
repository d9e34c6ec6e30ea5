-- The parts are those of the arguments.
use Rattle.std.proofs.Common.{ap, sym, ◌∙◌, map}
use Rattle.dp_app.specs.Cells.{cell_now}
use Rattle.dp_qapps.specs.Membership.{remove_by, remove_member_row}
use Rattle.dp_qapps.proofs.membership.RemoveQueueMemberApplication.apply.Goals as goal

pub returns-clause-ok : goal.returns-clause-ok
unfolding remove_member_row
returns-clause-ok c =
    ap (λ parts. remove_by parts (cell_now c.args.cell.now)) (sym c.in_ok-parts.ensures ∙ ap (map (λ part. part.now)) (sym c.deref.ensures.value))
    ∙ c.in_ok-going.ensures.ok
