use Rattle.dp_lister.proofs.PiecesLemmas.{header_pieces}
use Rattle.dp_lister.proofs.SinkLemmas.{three}
use Rattle.dp_lister.proofs.listing.push_header.Goals as goal

pub returns : goal.returns
returns g c = three g.S.ListingSink.laws _ _ _ _ _ _ _ _ (header_pieces c.args.name.now) c.put.ensures c.put_escaped.ensures c.put-2.ensures
