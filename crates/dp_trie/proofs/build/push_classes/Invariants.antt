use Rattle.dp_trie.specs.Tree.{Reaches}
use Rattle.dp_trie.proofs.build.push_classes.Given as goal

abbrev pub invariant-loop-depth : goal.invariant-loop-depth
invariant-loop-depth l = Reaches l.fn.nodes.items l.nodes.items l.classes l.from l.depth
