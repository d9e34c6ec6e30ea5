use Rattle.std.proofs.Common.{sym, refl, arith, length, ◌-◌, ◌<◌}
use Rattle.std.specs.Prelude.{slice_index}
use Rattle.std.proofs.lemmas.Option.{slice_get_read, slice_get_within}
use Rattle.dp_pattern.specs.Dashes.{without_dashes}
use Rattle.dp_trie.specs.Asked.{is_more, wants}
use Rattle.dp_trie.proofs.LeapLemmas.{after-leap}
use Rattle.dp_trie.proofs.TreeLemmas.{after-enter, after-fail, after-hold}
use Rattle.dp_trie.proofs.walk.PatternTree.find.Goals as goal

pub returns-in-Holds-clause-hit : goal.returns-in-Holds-clause-hit
returns-in-Holds-clause-hit c =
    let found = c.in-Some.ensures.lookup.3 in
    let here = slice_get_read c.args.self.now.nodes.now _ c.loop-node.place c.in-Some.node.now refl found.0 (found.1 c.in-Some.node.now) in
    let hold = after-hold c.args.self.now.held.now (is_more c.args.question) (wants c.args.question) (without_dashes c.args.digits.now.text.now) c.args.self.now.nodes.now c.loop-node.place c.loop-node.count c.loop-node.invariant.at c.in-Some.node.now here c.in-Holds.hit (sym c.in-Holds.ensures.visit) in
    hold.found

pub returns-in-Holds-clause-least : goal.returns-in-Holds-clause-least
returns-in-Holds-clause-least c =
    let found = c.in-Some.ensures.lookup.3 in
    let here = slice_get_read c.args.self.now.nodes.now _ c.loop-node.place c.in-Some.node.now refl found.0 (found.1 c.in-Some.node.now) in
    let hold = after-hold c.args.self.now.held.now (is_more c.args.question) (wants c.args.question) (without_dashes c.args.digits.now.text.now) c.args.self.now.nodes.now c.loop-node.place c.loop-node.count c.loop-node.invariant.at c.in-Some.node.now here c.in-Holds.hit (sym c.in-Holds.ensures.visit) in
    hold.least

pub returns-in-Holds-clause-count : goal.returns-in-Holds-clause-count
returns-in-Holds-clause-count c =
    let found = c.in-Some.ensures.lookup.3 in
    let here = slice_get_read c.args.self.now.nodes.now _ c.loop-node.place c.in-Some.node.now refl found.0 (found.1 c.in-Some.node.now) in
    let hold = after-hold c.args.self.now.held.now (is_more c.args.question) (wants c.args.question) (without_dashes c.args.digits.now.text.now) c.args.self.now.nodes.now c.loop-node.place c.loop-node.count c.loop-node.invariant.at c.in-Some.node.now here c.in-Holds.hit (sym c.in-Holds.ensures.visit) in
    hold.counted

pub loop-node-preserved-in-Enters : goal.loop-node-preserved-in-Enters
loop-node-preserved-in-Enters c =
    let found = c.in-Some.ensures.lookup.3 in
    let here = slice_get_read c.args.self.now.nodes.now _ c.loop-node.place c.in-Some.node.now refl found.0 (found.1 c.in-Some.node.now) in
    record {
      stands = c.visit_node.ensures.stands;
      at = after-enter c.args.self.now.held.now (is_more c.args.question) (wants c.args.question) (without_dashes c.args.digits.now.text.now) c.args.self.now.nodes.now c.loop-node.place c.loop-node.count c.loop-node.invariant.at c.in-Some.node.now here (sym c.in-Enters.ensures.visit);
    }

pub loop-node-preserved : goal.loop-node-preserved
loop-node-preserved c =
    let found = c.in-Some.ensures.lookup.3 in
    let here = slice_get_read c.args.self.now.nodes.now _ c.loop-node.place c.in-Some.node.now refl found.0 (found.1 c.in-Some.node.now) in
    record {
      stands = c.visit_node.ensures.stands;
      at = after-fail c.args.self.now.held.now (is_more c.args.question) (wants c.args.question) (without_dashes c.args.digits.now.text.now) c.args.self.now.nodes.now c.loop-node.place c.loop-node.count c.loop-node.invariant.at c.in-Some.node.now here
          (slice_index c.args.self.now.ends.now c.loop-node.place) (c.requires.tree.linked.each c.loop-node.place c.in-Some.node.now here) (sym c.in-Fails.ensures.visit);
    }

pub loop-node-smaller : goal.loop-node-smaller
loop-node-smaller c =
    let found = c.in-Some.ensures.lookup.3 in
    let here = slice_get_read c.args.self.now.nodes.now _ c.loop-node.place c.in-Some.node.now refl found.0 (found.1 c.in-Some.node.now) in
    let later = (c.requires.tree.linked.each c.loop-node.place c.in-Some.node.now here).later in
    let inside = slice_get_within c.args.self.now.nodes.now c.loop-node.place c.in-Some.node.now here in
    let less : length c.args.self.now.nodes.now - slice_index c.args.self.now.ends.now c.loop-node.place < length c.args.self.now.nodes.now - c.loop-node.place = omega (arith, later, inside) in
    less

pub visit_node-requires-clause-range : goal.visit_node-requires-clause-range
visit_node-requires-clause-range c =
    let found = c.in-Some.ensures.lookup.3 in
    let here = slice_get_read c.args.self.now.nodes.now _ c.loop-node.place c.in-Some.node.now refl found.0 (found.1 c.in-Some.node.now) in
    c.requires.tree.ranges c.loop-node.place c.in-Some.node.now here

pub visit_node-requires-clause-rises : goal.visit_node-requires-clause-rises
visit_node-requires-clause-rises c =
    let found = c.in-Some.ensures.lookup.3 in
    let here = slice_get_read c.args.self.now.nodes.now _ c.loop-node.place c.in-Some.node.now refl found.0 (found.1 c.in-Some.node.now) in
    c.requires.tree.rise c.loop-node.place c.in-Some.node.now here

pub loop-node-preserved-in-Some-leap_over : goal.loop-node-preserved-in-Some-leap_over
loop-node-preserved-in-Some-leap_over c = record {
  stands = c.loop-node.invariant.stands;
  at = after-leap c.args.self.now.held.now (is_more c.args.question) (wants c.args.question) (without_dashes c.args.digits.now.text.now) c.args.self.now.nodes.now c.args.self.now.ends.now c.requires.tree.linked
      c.args.self.now.leaps.now c.loop-node.place c.in-Some-leap_over.until c.loop-node.count c.at-first.result c.requires.leaps c.at-first.ensures.value c.in-Some-leap_over.ensures c.loop-node.invariant.at;
}
