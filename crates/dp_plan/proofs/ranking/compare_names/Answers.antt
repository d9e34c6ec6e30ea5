use Rattle.std.proofs.Common.{rules, sym}
use Rattle.dp_pattern.specs.Name.{IsName}
use Rattle.dp_pattern.proofs.OrderLemmas.{orders_names}
use Rattle.dp_plan.proofs.MeaningLemmas.{one_meaning}
use Rattle.dp_plan.proofs.ranking.compare_names.Goals as goal

pub returns-then-is_one : goal.returns-then-is_one
returns-then-is_one c =
    let left : IsName c.args.left.now = search rules in
    let right : IsName c.args.right.now = search rules in
    sym ((orders_names.same c.args.left.now c.args.right.now).1 (one_meaning c.args.left.now c.args.right.now left right (c.requires c.if-is_one.true)))
