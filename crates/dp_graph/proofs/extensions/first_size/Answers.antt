use Rattle.std.proofs.Common.{◌≡◌, ◌-◌, length, sym, ◌∙◌, arith}
use Rattle.dp_audit.proofs.CandidatesLemmas.{first_size-whole}
use Rattle.dp_graph.proofs.extensions.first_size.Goals as goal

pub returns : goal.returns
returns c =
    let at_last : c.loop-place.place ≡ length c.args.ids.now - 1 =
    omega (arith, c.loop-place-test.false, c.loop-place.auto.place-end, c.saturating_sub-place-end.ensures) in
    sym (first_size-whole c.args.plan.now c.args.ids.now c.loop-place.place at_last) ∙ c.loop-place.invariant
