use Rattle.std.proofs.Common.{decimal}
use Rattle.dp_lister.proofs.PiecesLemmas.{label_pieces}
use Rattle.dp_lister.proofs.SinkLemmas.{four}
use Rattle.dp_lister.proofs.listing.push_priority.Goals as goal

pub returns-in-Some : goal.returns-in-Some
returns-in-Some g c =
    let digits = rw (c.as_bytes.ensures.value, c.format.ensures.text) at c.put_escaped.ensures in
    let label = rw c.bytes.ensures at c.put_escaped-in-Some.ensures in
    rw c.in-Some.is (four g.S.ListingSink.laws _ _ _ _ _ _ _ _ _ _ (label_pieces (decimal c.args.priority) c.in-Some.label) digits c.put.ensures label c.put-in-Some.ensures)
