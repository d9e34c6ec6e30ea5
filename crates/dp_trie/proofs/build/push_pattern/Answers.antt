use Rattle.std.proofs.Common.{◌≡◌, ◌∙◌, subst, [], ◌∷◌, ◌++◌, length, drop}
use Rattle.dp_trie.specs.Tree.{pattern_nodes}
use Rattle.dp_trie.proofs.BuildLemmas.{leaf_node, reaches-leaf, reaches-nodes}
use Rattle.dp_trie.proofs.build.push_pattern.Goals as goal

pub returns-clause-pushes : goal.returns-clause-pushes
returns-clause-pushes c =
    let reached = c.in_ok-push_classes.ensures {u = tt} in
    let pushed = (c.in_ok-push.ensures {u = tt}).items in
    rw pushed
    (reaches-leaf c.args.nodes.now.items c.push_classes.new.nodes.items c.args.classes.now c.count_shared-from.result c.args.leaf reached)

pub returns-clause-added : goal.returns-clause-added
returns-clause-added c =
    let reached = c.in_ok-push_classes.ensures {u = tt} in
    let pushed = (c.in_ok-push.ensures {u = tt}).items in
    let added = reaches-nodes c.args.nodes.now.items c.push_classes.new.nodes.items c.args.classes.now c.count_shared-from.result c.args.leaf reached in
    pushed ∙ subst (λ n. c.push_classes.new.nodes.items ++ leaf_node (length c.args.classes.now) c.args.leaf ∷ [] ≡ c.args.nodes.now.items ++ pattern_nodes n (drop n c.args.classes.now) c.args.leaf) c.count_shared-from.ensures.value added
