use Rattle.dp_lister.specs.Listing.{application_text, priority_text}
use Rattle.dp_lister.proofs.PiecesLemmas.{after_pieces}
use Rattle.dp_lister.proofs.SinkLemmas.{four}
use Rattle.dp_lister.proofs.listing.push_after_name.Goals as goal

pub returns : goal.returns
returns g c =
    let entry = c.args.entry.now in
    let priority = rw c.get.ensures.number at c.push_priority.ensures in
    let application = rw (c.bytes.ensures, c.bytes-2.ensures.value) at c.push_application.ensures in
    four g.S.ListingSink.laws _ _ _ _ _ _ _ _ _ _ (after_pieces (priority_text entry.priority entry.label) (application_text entry.application entry.arguments))
    c.put.ensures priority c.put-2.ensures application
