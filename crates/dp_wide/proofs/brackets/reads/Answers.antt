use Rattle.dp_wide.proofs.BracketsLemmas.{has_counted-later, reads-here, reads-over}
use Rattle.dp_wide.proofs.brackets.reads.Goals as goal

pub returns-then-is_counted : goal.returns-then-is_counted
returns-then-is_counted c =
    reads-here c.args.text.now c.loop-byte.left.now c.in-Some.after.now c.loop-byte.open c.in-Some.byte.now c.mark-mark.result
    c.in-Some.ensures.cases.0 c.mark-mark.ensures c.if-is_counted.ensures c.loop-byte.invariant

pub loop-byte-preserved : goal.loop-byte-preserved
loop-byte-preserved c =
    has_counted-later c.args.text.now c.loop-byte.left.now c.in-Some.after.now c.behind-left.result.now c.loop-byte.open c.take.new.self
    c.in-Some.byte.now c.mark-mark.result c.in-Some.ensures.cases.0 c.mark-mark.ensures c.if-is_counted.ensures c.in_ok-take.ensures.ok
    (c.behind-left.ensures.counted c.take.new.self) c.loop-byte.invariant

pub returns : goal.returns
returns c = reads-over c.args.text.now c.loop-byte.left.now c.loop-byte.open c.in_default.ensures.cases c.loop-byte.invariant
