use Rattle.dp_plan.proofs.RankingLemmas.{AreRanked-more, AreAllNamed-more}
use Rattle.dp_plan.proofs.ranking.rank_contexts.Goals as goal

pub loop-number-preserved : goal.loop-number-preserved
loop-number-preserved c = record {
  ranked =
      rw c.in_ok-push.ensures.items
      (AreRanked-more c.args.contexts.now c.loop-number.rankings.items c.loop-number.number c.index-contexts-number.result c.in_ok-ranking.ranking c.loop-number.invariant.ranked c.loop-number-test.true c.index-contexts-number.is
      c.in_ok-ranking.ensures.ranked);
  named = AreAllNamed-more c.args.contexts.now c.loop-number.number c.index-contexts-number.result c.loop-number.invariant.named c.loop-number-test.true c.index-contexts-number.is c.rank_context.ensures.named;
}
