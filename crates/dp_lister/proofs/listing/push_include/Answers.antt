use Rattle.dp_lister.proofs.PiecesLemmas.{include_pieces}
use Rattle.dp_lister.proofs.SinkLemmas.{three}
use Rattle.dp_lister.proofs.listing.push_include.Goals as goal

pub returns : goal.returns
returns g c =
    let name = rw c.bytes.ensures at c.put_escaped.ensures in
    three g.S.ListingSink.laws _ _ _ _ _ _ _ _ (include_pieces c.args.name.now) c.put.ensures name c.put-2.ensures
