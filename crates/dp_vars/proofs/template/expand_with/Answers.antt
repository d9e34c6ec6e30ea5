-- The text of a template has one reading, and the pieces of the template are those of its text.
use Rattle.std.proofs.Common.{ap, ◌∙◌, subst, sym}
use Rattle.dp_conf.proofs.GroupsLemmas.{one_reading}
use Rattle.dp_vars.specs.Pieces.{AreOf}
use Rattle.dp_vars.specs.Sights.{sight_of}
use Rattle.dp_vars.specs.Values.{expansion_of_with, expansion_with}
use Rattle.dp_vars.proofs.template.expand_with.Goals as goal

pub returns-clause-reading : goal.returns-clause-reading
returns-clause-reading g c reading reads =
    c.in_ok-bytes.ensures (subst (λ text. AreOf text c.template.inside.pieces) (sym c.deref.ensures.value) c.template.invariant)
    ∙ ap (expansion_with g.F.Functions.table (sight_of g.C.Counts.count c.args.scope.now)) (c.deref.ensures.value ∙ c.template.view_is)
    ∙ ap (expansion_of_with g.F.Functions.table (sight_of g.C.Counts.count c.args.scope.now)) (sym ((one_reading c.args.template.now reading).0 reads))
