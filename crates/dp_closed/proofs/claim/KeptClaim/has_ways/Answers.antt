use Rattle.std.proofs.Common.{◌<◌, length, arith}
use Rattle.std.proofs.lemmas.Option.{slice_get_within}
use Rattle.dp_closed.specs.Reach.{areas_in}
use Rattle.dp_closed.proofs.ClaimLemmas.{leads-out}
use Rattle.dp_closed.proofs.claim.KeptClaim.has_ways.Goals as goal

pub returns : goal.returns
returns c = λ yes settings are.
    leads-out c.args.self.plan.now (areas_in c.args.self.plan.now.contexts c.args.self.reach.now.shapes.items) settings c.args.self.ways.now are
    (c.in_ok-has_way.ensures c.if-not-branch.false)
    (λ k way there.
    let within : k < length c.args.self.ways.now = slice_get_within c.args.self.ways.now k way there in
    let below : k < c.loop-way.way-index = omega (arith, within, c.loop-way-test.false) in
    c.loop-way.invariant k way below there)
