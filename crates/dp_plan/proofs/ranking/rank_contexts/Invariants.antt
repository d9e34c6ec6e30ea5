use Rattle.std.proofs.Common.{take}
use Rattle.std.specs.List.{All}
use Rattle.dp_plan.specs.Contexts.{AreNamed}
use Rattle.dp_plan.specs.Ranking.{AreRanked}
use Rattle.dp_plan.proofs.ranking.rank_contexts.Given as goal

abbrev pub invariant-loop-number : goal.invariant-loop-number
invariant-loop-number l = record {
  ranked : AreRanked (take l.number l.contexts) l.rankings.items;
  named : All (λ context. AreNamed context.entries) (take l.number l.contexts);
}
