use Rattle.dp_trie.proofs.KeepLemmas.{keeps-push}
use Rattle.dp_trie.proofs.trie.Trie.build.Goals as goal

pub loop-number-preserved : goal.loop-number-preserved
loop-number-preserved c =
    let pushed = (c.in_ok-push.ensures {u = tt}).items in
    rw pushed
    (keeps-push c.loop-number.number c.args.plan.now c.loop-number.tables.items c.in_ok-table.table c.loop-number.invariant (c.in_ok-table.ensures {u = tt}))
