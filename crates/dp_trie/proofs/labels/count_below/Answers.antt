use Rattle.std.proofs.Common.{rules}
use Rattle.std.specs.Prelude.{nat_lt}
use Rattle.std.proofs.lemmas.List.Sorted.{IsPartitionPoint-from_clause}
use Rattle.dp_pattern.specs.Dashes.{without_dashes}
use Rattle.dp_trie.specs.steps.Labels.{name_rank}
use Rattle.dp_trie.specs.declared.labels.Holder.{Holder}
use Rattle.dp_trie.proofs.LabelLemmas.{labels-parted}
use Rattle.dp_trie.proofs.PointLemmas.{below-point, above-point}
use Rattle.dp_trie.proofs.labels.count_below.Goals as goal

pub returns-clause-below : goal.returns-clause-below
returns-clause-below c =
    let digits = without_dashes c.args.digits.now.text.now in
    let point = IsPartitionPoint-from_clause (λ (r : Holder). nat_lt (name_rank digits r.name) c.args.limit) _ _ c.partition_point.ensures.partitioned (labels-parted digits c.args.holders.now c.args.limit c.requires) (λ a r q k. search rules) in
    below-point (λ (r : Holder). name_rank digits r.name) c.args.holders.now c.args.limit c.partition_point.result point

pub returns-clause-above : goal.returns-clause-above
returns-clause-above c =
    let digits = without_dashes c.args.digits.now.text.now in
    let point = IsPartitionPoint-from_clause (λ (r : Holder). nat_lt (name_rank digits r.name) c.args.limit) _ _ c.partition_point.ensures.partitioned (labels-parted digits c.args.holders.now c.args.limit c.requires) (λ a r q k. search rules) in
    above-point (λ (r : Holder). name_rank digits r.name) c.args.holders.now c.args.limit c.partition_point.result point
