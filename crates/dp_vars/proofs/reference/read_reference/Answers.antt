-- The value of the head is cut as the tail requests.
use Rattle.std.proofs.Common.{ap, ◌∙◌, sym, Some}
use Rattle.dp_vars.specs.Parts.{part, asked_of}
use Rattle.dp_vars.specs.Shown.{value_bytes}
use Rattle.dp_vars.specs.Sights.{sight_of}
use Rattle.dp_vars.specs.Values.{body_by_with}
use Rattle.dp_vars.proofs.PartsLemmas.{part-at_most}
use Rattle.dp_vars.proofs.reference.read_reference.Goals as goal

pub returns-in_ok-called-in-Some-clause-value : goal.returns-in_ok-called-in-Some-clause-value
returns-in_ok-called-in-Some-clause-value g c small =
    ap (λ asked. part asked (value_bytes c.in_ok-called-in-Some.called.value)) c.read_asked.ensures
    ∙ part-at_most (asked_of (Some c.in-Some.tail.now)) (value_bytes c.in_ok-called-in-Some.called.value) small
    ∙ ap (part (asked_of (Some c.in-Some.tail.now))) c.in_ok-called-in-Some.ensures.value
    ∙ ap (body_by_with g.F.Functions.table (sight_of g.C.Counts.count c.args.scope.now) c.args.body.now) (sym c.in-Some.ensures.cut)
