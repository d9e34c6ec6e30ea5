use Rattle.std.proofs.Common.{arith, ◌-◌}
use Rattle.dp_trie.proofs.LinkLemmas.{linked-end, linked-set, linked-before}
use Rattle.dp_trie.proofs.link.link.Goals as goal

pub loop-place-preserved : goal.loop-place-preserved
loop-place-preserved c =
    let count = c.loop-place.invariant.linked.count in
    let inside = c.loop-place.invariant.within in
    record {
      within = omega (arith, inside);
      linked = linked-set c.args.nodes.now c.loop-place.ends.items (c.loop-place.place - 1) c.end_of-end.result (omega (arith, count, inside, c.loop-place-test.true))
          (linked-before c.args.nodes.now c.loop-place.ends.items c.loop-place.place c.loop-place-test.true c.loop-place.invariant.linked) c.end_of-end.ensures;
    }

pub returns : goal.returns
returns c = linked-end c.args.nodes.now c.loop-place.ends.items c.loop-place.place c.loop-place-test.false c.loop-place.invariant.linked
