use Rattle.std.proofs.Common.{map, take}
use Rattle.dp_lister.specs.Listing.{text_of, entry_line}
use Rattle.dp_lister.proofs.listing.push_entries.Given as goal

abbrev pub invariant-loop-entry : goal.invariant-loop-entry
invariant-loop-entry g l = g.S.ListingSink.takes l.initial.out l.out (text_of (map entry_line (take l.entry-index l.entries)))
