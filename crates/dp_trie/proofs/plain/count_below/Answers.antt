use Rattle.std.proofs.Common.{rules}
use Rattle.std.specs.Prelude.{nat_lt}
use Rattle.std.proofs.lemmas.List.Sorted.{IsPartitionPoint-from_clause}
use Rattle.dp_pattern.specs.Dashes.{without_dashes}
use Rattle.dp_trie.specs.Names.{rank_of}
use Rattle.dp_trie.specs.declared.plain.PlainName.{PlainName}
use Rattle.dp_trie.proofs.PlainLemmas.{ranks-parted}
use Rattle.dp_trie.proofs.PointLemmas.{below-point, above-point}
use Rattle.dp_trie.proofs.plain.count_below.Goals as goal

pub returns-clause-below : goal.returns-clause-below
returns-clause-below c =
    let point = IsPartitionPoint-from_clause (λ (p : PlainName). nat_lt (rank_of (without_dashes c.args.digits.now.text.now) p) c.args.limit) _ _ c.partition_point.ensures.partitioned (ranks-parted c.args.names.now (without_dashes c.args.digits.now.text.now) c.args.limit c.requires) (λ a r q k. search rules) in
    below-point (rank_of (without_dashes c.args.digits.now.text.now)) c.args.names.now c.args.limit c.partition_point.result point

pub returns-clause-above : goal.returns-clause-above
returns-clause-above c =
    let point = IsPartitionPoint-from_clause (λ (p : PlainName). nat_lt (rank_of (without_dashes c.args.digits.now.text.now) p) c.args.limit) _ _ c.partition_point.ensures.partitioned (ranks-parted c.args.names.now (without_dashes c.args.digits.now.text.now) c.args.limit c.requires) (λ a r q k. search rules) in
    above-point (rank_of (without_dashes c.args.digits.now.text.now)) c.args.names.now c.args.limit c.partition_point.result point
