use Rattle.std.proofs.Common.{ap, ◌∙◌}
use Rattle.dp_vars.specs.Sights.{sight_of}
use Rattle.dp_vars.specs.Unknown.{any_text}
use Rattle.dp_vars.proofs.ExpandingLemmas.{named-unknown}
use Rattle.dp_vars.proofs.expanding.group_value.Goals as goal

pub returns-clause-unknown : goal.returns-clause-unknown
returns-clause-unknown g c =
    c.any_text-unknown.ensures
    ∙ ap any_text (named-unknown g.F.Functions.table (sight_of g.C.Counts.count c.args.scope.now) c.new-noted.result.items
    c.note_body.new.noted.items c.args.body.now c.in_ok-reference.reference.called.is_known
    c.new-noted.ensures.items c.in_ok-note_body.ensures c.in_ok-reference.ensures.known)
