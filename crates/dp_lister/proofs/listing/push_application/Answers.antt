use Rattle.dp_lister.proofs.PiecesLemmas.{application_pieces}
use Rattle.dp_lister.proofs.SinkLemmas.{four}
use Rattle.dp_lister.proofs.listing.push_application.Goals as goal

pub returns : goal.returns
returns g c =
    four g.S.ListingSink.laws _ _ _ _ _ _ _ _ _ _ (application_pieces c.args.name.now c.args.arguments.now) c.put_escaped.ensures c.put.ensures c.put_escaped-2.ensures c.put-2.ensures
