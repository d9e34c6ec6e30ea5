use Rattle.std.proofs.Common.{rules}
use Rattle.dp_plan.proofs.RankingLemmas.{IsSortedBy-entries, IsRanking-sorted}
use Rattle.dp_plan.proofs.ranking.rank.Goals as goal

pub returns : goal.returns
returns c = IsRanking-sorted c.args.context c.args.entries.now c.in_ok-ids.ids.items c.sort_unstable_by.new.self.items
    (search rules)
    c.sort_unstable_by.ensures.permutation
    (IsSortedBy-entries c.args.entries.now _ c.sort_unstable_by.ensures.sorted (λ a r q k. search rules))
    c.requires.apart
