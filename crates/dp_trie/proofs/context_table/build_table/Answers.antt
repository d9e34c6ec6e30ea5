use Rattle.std.proofs.Common.{List, subst, sym, ap, ◌∙◌, ◌++◌, [], map}
use Rattle.dp_trie.specs.Entered.{StandOnce}
use Rattle.dp_trie.specs.steps.Labels.{AreLabels}
use Rattle.dp_trie.specs.steps.Leaps.{AreLeaps}
use Rattle.dp_trie.specs.Names.{known_plain}
use Rattle.dp_trie.specs.steps.Ranked.{known_now}
use Rattle.dp_trie.specs.Tree.{HaveEnds, known_from}
use Rattle.dp_trie.specs.declared.node.HeldEntry.{HeldEntry}
use Rattle.dp_trie.proofs.TableLemmas.{order-parts, whole-known, names-known, tree-known, names-order, names-ranges, is-tree, tree-size}
use Rattle.dp_trie.proofs.context_table.build_table.Goals as goal

pub invariant_of-result : goal.invariant_of-result
invariant_of-result c =
    let first = c.split_at.result.0.now in
    let rest = c.split_at.result.1.now in
    let order = order-parts c.count_plain.result c.args.ranked.now first rest c.split_at.ensures.front c.split_at.ensures.back c.requires.order in
    let plain = c.in_ok-plain.ensures {u = tt} in
    let held = c.in_ok-held.ensures {u = tt} in
    let known = c.in_ok-names.ensures.known in
    let tree = c.in_ok-nodes.ensures.known in
    let linked = subst (λ nodes. HaveEnds nodes c.in_ok-ends.ends.items) c.deref.ensures.value (c.in_ok-ends.ensures {u = tt}) in
    let entries =
    ap (λ l. l ++ known_from c.in_ok-held.held.items [] c.in_ok-nodes.nodes.items) (names-known first c.in_ok-plain.plain.items c.in_ok-names.names.items plain known)
    ∙ (ap (λ l. map known_now first ++ l) (tree-known rest c.in_ok-held.held.items c.in_ok-nodes.nodes.items held tree)
    ∙ whole-known c.count_plain.result c.args.ranked.now first rest c.split_at.ensures.front c.split_at.ensures.back) in
    let leaps =
    subst (λ ends. AreLeaps c.in_ok-nodes.nodes.items ends c.in_ok-leaps.leaps.items) c.deref-3.ensures.value
    (subst (λ nodes. AreLeaps nodes c.deref-3.result.now c.in_ok-leaps.leaps.items) c.deref-2.ensures.value (c.in_ok-leaps.ensures {u = tt})) in (
      names-ranges first c.in_ok-plain.plain.items c.in_ok-names.names.items plain known (c.in_ok-names.ensures.ranges),
      names-order first c.in_ok-plain.plain.items c.in_ok-names.names.items plain known order.0,
      is-tree rest c.in_ok-held.held.items c.in_ok-nodes.nodes.items held tree c.in_ok-ends.ends.items order.1 linked (c.in_ok-nodes.ensures.rooted) (c.in_ok-nodes.ensures.ranges),
      leaps,
      subst (λ entries. AreLabels entries c.in_ok-labels.labels) (sym entries) (c.in_ok-labels.ensures {u = tt}),
      tree-size rest c.in_ok-held.held.items c.in_ok-nodes.nodes.items held tree (known_plain c.in_ok-plain.plain.items c.in_ok-names.names.items) (c.in_ok-nodes.ensures.size),
      subst (λ (h : List HeldEntry). StandOnce h c.in_ok-nodes.nodes.items) (sym held) (c.in_ok-nodes.ensures.once),
    )
