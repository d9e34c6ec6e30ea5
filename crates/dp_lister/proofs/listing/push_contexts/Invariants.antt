use Rattle.std.proofs.Common.{take}
use Rattle.dp_lister.specs.Listing.{contexts_text}
use Rattle.dp_lister.proofs.listing.push_contexts.Given as goal

abbrev pub invariant-loop-context : goal.invariant-loop-context
invariant-loop-context g l = g.S.ListingSink.takes l.initial.out l.out (contexts_text (take l.context-index l.contexts))
