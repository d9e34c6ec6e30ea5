use Rattle.std.proofs.Common.{ap, sym, ◌∙◌, map}
use Rattle.dp_app.specs.Cells.{cell_now}
use Rattle.dp_wide.specs.Subroutines.{enter_counted}
use Rattle.dp_wide.proofs.CallsLemmas.{enter_counted-push}
use Rattle.dp_wide.proofs.subroutines.enter_by_parts.Goals as goal

pub returns-in_default-called_by-clause-ok : goal.returns-in_default-called_by-clause-ok
returns-in_default-called_by-clause-ok c =
    enter_counted-push (λ part. part.now) c.args.parts.now c.in-Some.front.now c.in-Some.last.now (cell_now c.args.cell.now) c.in-Some.ensures.cases.0
    ∙ ap (enter_counted (cell_now c.args.cell.now) (map (λ part. part.now) c.in-Some.front.now)) (sym c.in_default-called_by.ensures)

pub returns-clause-ok : goal.returns-clause-ok
returns-clause-ok c =
    enter_counted-push (λ part. part.now) c.args.parts.now c.in-Some.front.now c.in-Some.last.now (cell_now c.args.cell.now) c.in-Some.ensures.cases.0
    ∙ ap (enter_counted (cell_now c.args.cell.now) (map (λ part. part.now) c.in-Some.front.now)) (sym c.in-Some-called_by.ensures)
    ∙ c.in_ok-going.ensures.ok
