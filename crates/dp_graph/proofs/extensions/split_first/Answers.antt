use Rattle.std.proofs.Common.{arith}
use Rattle.dp_audit.proofs.CandidatesLemmas.{extensions-split, first_size-most, first_size-some}
use Rattle.dp_graph.proofs.extensions.split_first.Goals as goal

pub split_at-requires : goal.split_at-requires
split_at-requires c = omega (arith, c.first_size.ensures, first_size-most c.args.plan.now c.args.ids.now)

pub returns-clause-split : goal.returns-clause-split
returns-clause-split c =
    rw (c.split_at.ensures.front, c.split_at.ensures.back, c.first_size.ensures) (extensions-split c.args.plan.now c.args.ids.now c.requires)

pub returns-clause-shorter : goal.returns-clause-shorter
returns-clause-shorter c =
    omega (arith, c.split_at.ensures.back_len, c.first_size.ensures, first_size-some c.args.plan.now c.args.ids.now c.requires)
