use Rattle.std.proofs.Common.{map}
use Rattle.dp_lister.specs.Listing.{entry_line, header_line, include_line}
use Rattle.dp_lister.proofs.PiecesLemmas.{context_pieces}
use Rattle.dp_lister.proofs.SinkLemmas.{three}
use Rattle.dp_lister.proofs.listing.push_context.Goals as goal

pub returns : goal.returns
returns g c =
    let context = c.args.context.now in
    let header = rw (c.bytes.ensures, c.name.ensures) at c.push_header.ensures in
    let entries = rw c.entries.ensures at c.push_entries.ensures in
    let includes = rw c.includes.ensures at c.push_includes.ensures in
    three g.S.ListingSink.laws _ _ _ _ _ _ _ _ (context_pieces (header_line context.name) (map entry_line context.entries) (map include_line context.includes)) header entries includes
