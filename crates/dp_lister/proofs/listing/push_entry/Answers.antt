use Rattle.dp_pattern.specs.Spelling.{spelling}
use Rattle.dp_lister.specs.Listing.{after_name}
use Rattle.dp_lister.proofs.PiecesLemmas.{entry_pieces}
use Rattle.dp_lister.proofs.SinkLemmas.{four}
use Rattle.dp_lister.proofs.listing.push_entry.Goals as goal

pub returns : goal.returns
returns g c =
    let entry = c.args.entry.now in
    let name = rw c.spelling.ensures at c.put_escaped.ensures in
    four g.S.ListingSink.laws _ _ _ _ _ _ _ _ _ _ (entry_pieces (spelling entry.name) (after_name entry)) c.put.ensures name c.push_after_name.ensures c.put-2.ensures
