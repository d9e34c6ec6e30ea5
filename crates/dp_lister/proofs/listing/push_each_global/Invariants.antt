use Rattle.std.proofs.Common.{map, take}
use Rattle.dp_lister.specs.Listing.{text_of, global_line}
use Rattle.dp_lister.proofs.listing.push_each_global.Given as goal

abbrev pub invariant-loop-global : goal.invariant-loop-global
invariant-loop-global g l = g.S.ListingSink.takes l.initial.out l.out (text_of (map global_line (take l.global-index l.globals)))
