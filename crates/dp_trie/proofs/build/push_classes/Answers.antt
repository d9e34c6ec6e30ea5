use Rattle.std.proofs.Common.{refl, arith}
use Rattle.std.proofs.lemmas.Option.{slice_get_read}
use Rattle.dp_trie.proofs.BuildLemmas.{reaches-push}
use Rattle.dp_trie.proofs.build.push_classes.Goals as goal

pub loop-depth-preserved : goal.loop-depth-preserved
loop-depth-preserved c =
    let pushed = c.in_ok-push_class.ensures {u = tt} in
    let here = slice_get_read c.args.classes.now _ c.loop-depth.depth c.index-classes-depth.result refl (omega arith) c.index-classes-depth.is in
    rw pushed
    (reaches-push c.args.nodes.now.items c.loop-depth.nodes.items c.args.classes.now c.args.from c.loop-depth.depth c.index-classes-depth.result c.loop-depth.invariant here)
