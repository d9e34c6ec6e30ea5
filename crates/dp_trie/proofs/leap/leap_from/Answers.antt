use Rattle.std.proofs.Common.{arith}
use Rattle.dp_trie.proofs.LeapLemmas.{passes-more}
use Rattle.dp_trie.proofs.leap.leap_from.Goals as goal

pub loop-class-preserved : goal.loop-class-preserved
loop-class-preserved c =
    let few = c.loop-class.invariant.few in
    let other = c.if-passed-eq-MOST_PASSED.false in
    record {
      few = omega (arith, few, other);
      passes = passes-more c.args.nodes.now c.args.ends.now c.loop-class.marks c.mark.new.marks c.loop-class.passed c.args.from c.loop-class.until c.in-Some.class.now
          c.loop-class.invariant.passes c.mark.ensures.kept c.mark.ensures.outside c.in-Some.ensures;
    }
