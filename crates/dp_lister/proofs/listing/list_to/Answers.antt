use Rattle.dp_lister.proofs.PiecesLemmas.{plan_pieces}
use Rattle.dp_lister.proofs.SinkLemmas.{two}
use Rattle.dp_lister.proofs.listing.list_to.Goals as goal

pub returns : goal.returns
returns g c =
    let globals = rw c.globals.ensures at c.push_globals.ensures in
    let contexts = rw c.contexts.ensures at c.push_contexts.ensures in
    two g.S.ListingSink.laws _ _ _ _ _ _ (plan_pieces c.args.plan.now) globals contexts
