use Rattle.std.proofs.Common.{map, take}
use Rattle.dp_lister.specs.Listing.{text_of, include_line}
use Rattle.dp_lister.proofs.listing.push_includes.Given as goal

abbrev pub invariant-loop-name : goal.invariant-loop-name
invariant-loop-name g l = g.S.ListingSink.takes l.initial.out l.out (text_of (map include_line (take l.name-index l.includes)))
