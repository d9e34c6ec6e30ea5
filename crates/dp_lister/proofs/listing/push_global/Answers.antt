use Rattle.dp_lister.proofs.PiecesLemmas.{global_pieces}
use Rattle.dp_lister.proofs.SinkLemmas.{four}
use Rattle.dp_lister.proofs.listing.push_global.Goals as goal

pub returns : goal.returns
returns g c =
    let name = rw c.bytes.ensures at c.put_escaped.ensures in
    let value = rw c.bytes-2.ensures.value at c.put_escaped-2.ensures in
    four g.S.ListingSink.laws _ _ _ _ _ _ _ _ _ _ (global_pieces c.args.global.now.name c.args.global.now.value) name c.put.ensures value c.put-2.ensures
