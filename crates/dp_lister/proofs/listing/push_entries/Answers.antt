use Rattle.std.proofs.Common.{rules}
use Rattle.dp_lister.specs.Listing.{entry_line}
use Rattle.dp_lister.proofs.SinkLemmas.{lines-drop, lines-more}
use Rattle.dp_lister.proofs.listing.push_entries.Goals as goal

pub loop-entry-preserved : goal.loop-entry-preserved
loop-entry-preserved g c =
    lines-more g.S.ListingSink.laws entry_line c.args.entries.now c.loop-entry.entry-index c.entry-item.result c.args.out.now c.loop-entry.out c.push_entry.new.out
    c.loop-entry-test.true c.entry-item.is c.loop-entry.invariant c.push_entry.ensures

pub returns-then-has_failed : goal.returns-then-has_failed
returns-then-has_failed g c =
    lines-drop g.S.ListingSink.laws entry_line c.args.entries.now c.loop-entry.entry-index c.args.out.now c.loop-entry.out c.loop-entry.invariant
    (c.has_failed.ensures (search rules))
