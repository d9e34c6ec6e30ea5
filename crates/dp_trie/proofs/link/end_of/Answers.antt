use Rattle.std.proofs.Common.{◌-◌, ◌<◌, ◌∙◌, refl, arith, length, get_or}
use Rattle.std.specs.Prelude.{slice_index}
use Rattle.std.proofs.lemmas.Option.{slice_get_read, slice_get_past, slice_get-get_or}
use Rattle.dp_trie.specs.declared.node.Node.{Node}
use Rattle.dp_trie.proofs.LinkLemmas.{end-jump, end-found, end-last, end_by}
use Rattle.dp_trie.proofs.link.end_of.Goals as goal

pub returns-then-node-depth : goal.returns-then-node-depth
returns-then-node-depth c =
    let found = c.in-Some.ensures.lookup.3 in
    let here = slice_get_read c.args.nodes.now _ c.loop-node.end c.in-Some.node.now refl found.0 (found.1 c.in-Some.node.now) in
    let first : Node = get_or c.args.nodes.now c.args.place c.index-nodes-place.result in
    let there = slice_get-get_or c.args.nodes.now c.args.place c.index-nodes-place.result c.requires.within in
    end_by c.args.nodes.now c.args.place c.loop-node.end first.depth first there refl
    (end-found c.args.nodes.now first.depth c.args.place c.loop-node.end c.in-Some.node.now c.loop-node.invariant.later here c.if-node-depth.true c.loop-node.invariant.same)

pub loop-node-preserved : goal.loop-node-preserved
loop-node-preserved c =
    let found = c.in-Some.ensures.lookup.3 in
    let here = slice_get_read c.args.nodes.now _ c.loop-node.end c.in-Some.node.now refl found.0 (found.1 c.in-Some.node.now) in
    let first : Node = get_or c.args.nodes.now c.args.place c.index-nodes-place.result in
    let later = c.loop-node.invariant.later in
    let is_end = c.requires.linked.each c.loop-node.end (omega (arith, later)) c.in-Some.node.now here in
    let after = is_end.later in
    record {
      later = omega (arith, later, after);
      within = is_end.within;
      same = end-jump c.args.nodes.now first.depth (slice_index c.args.ends.now c.loop-node.end) c.loop-node.end c.in-Some.node.now here c.if-node-depth.false is_end ∙ c.loop-node.invariant.same;
    }

pub loop-node-smaller : goal.loop-node-smaller
loop-node-smaller c =
    let found = c.in-Some.ensures.lookup.3 in
    let here = slice_get_read c.args.nodes.now _ c.loop-node.end c.in-Some.node.now refl found.0 (found.1 c.in-Some.node.now) in
    let later = c.loop-node.invariant.later in
    let inside = found.0 in
    let is_end = c.requires.linked.each c.loop-node.end (omega (arith, later)) c.in-Some.node.now here in
    let after = is_end.later in
    let less : length c.args.nodes.now - slice_index c.args.ends.now c.loop-node.end < length c.args.nodes.now - c.loop-node.end = omega (arith, after, inside) in
    less

pub returns : goal.returns
returns c =
    let ended = c.in_default.ensures.lookup.3 in
    let first : Node = get_or c.args.nodes.now c.args.place c.index-nodes-place.result in
    let there = slice_get-get_or c.args.nodes.now c.args.place c.index-nodes-place.result c.requires.within in
    end_by c.args.nodes.now c.args.place c.loop-node.end first.depth first there refl
    (end-last c.args.nodes.now first.depth c.args.place c.loop-node.end c.loop-node.invariant.later c.loop-node.invariant.within (slice_get_past c.args.nodes.now c.loop-node.end ended) c.loop-node.invariant.same)
