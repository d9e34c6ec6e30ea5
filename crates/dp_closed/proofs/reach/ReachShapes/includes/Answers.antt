use Rattle.std.proofs.Common.{ap, ◌∙◌}
use Rattle.std.proofs.lemmas.Option.{MatchOption-at_some}
use Rattle.dp_plan.specs.Lookup.{number_of}
use Rattle.dp_closed.proofs.ReachLemmas.{includes-text_known}
use Rattle.dp_closed.proofs.reach.ReachShapes.includes.Goals as goal

pub returns : goal.returns
returns c = λ yes.
    includes-text_known c.args.plan.now c.args.self.now.shapes.items c.args.context.now c.args.exten.now c.in-Some.bytes.items
    (MatchOption-at_some _ _ c.in-Some.bytes c.in-Some.is c.in_ok-known.ensures)
    (λ number at. c.has_known.ensures yes number (ap (number_of c.args.plan.now) c.new-name.ensures ∙ at))
