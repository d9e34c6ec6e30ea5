use Rattle.std.proofs.Common.{◌<◌, length, arith}
use Rattle.std.proofs.lemmas.Option.{slice_get_within}
use Rattle.dp_closed.specs.Claimed.{kept_claim}
use Rattle.dp_reach.specs.Bounds.{Meets}
use Rattle.dp_closed.proofs.ClaimLemmas.{each-met}
use Rattle.dp_closed.proofs.claim.KeptClaim.meets_all.Goals as goal

pub returns : goal.returns
returns c = λ yes settings are.
    each-met (Meets (kept_claim c.args.self settings)) c.args.duties.now (λ k duty at.
    let within : k < length c.args.duties.now = slice_get_within c.args.duties.now k duty at in
    let below : k < c.loop-duty.duty-index = omega (arith, within, c.loop-duty-test.false) in
    c.loop-duty.invariant k duty below at settings are)
