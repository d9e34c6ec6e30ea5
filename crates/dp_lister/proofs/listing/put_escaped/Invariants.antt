use Rattle.std.proofs.Common.{length}
use Rattle.dp_conf.specs.Escape.{escape_text}
use Rattle.dp_lister.proofs.SinkLemmas.{TakesFirst}
use Rattle.dp_lister.proofs.listing.put_escaped.Given as goal

abbrev pub invariant-loop-part : goal.invariant-loop-part
invariant-loop-part g l = TakesFirst g.S.ListingSink.takes l.initial.out l.out (escape_text l.left) (escape_text l.fn.text)

abbrev pub decreases-loop-part : goal.decreases-loop-part
decreases-loop-part g l = length l.left
