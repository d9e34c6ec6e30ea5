use Rattle.std.proofs.Common.{◌<◌, length, ap, arith}
use Rattle.std.proofs.lemmas.Option.{slice_get_within}
use Rattle.dp_closed.proofs.ReachLemmas.{includes-all}
use Rattle.dp_closed.proofs.reach.ReachShapes.has_all.Goals as goal

pub returns : goal.returns
returns c = λ yes.
    includes-all c.args.plan.now c.args.self.now.shapes.items c.args.context.now c.args.exten.now
    (λ k own there.
    let within : k < length c.args.plan.now.contexts = slice_get_within c.args.plan.now.contexts k own there in
    let below : k < c.loop-number.number = omega (arith, within, c.loop-number-test.false, ap length c.contexts-own-items.ensures) in
    c.loop-number.invariant k own below there)
