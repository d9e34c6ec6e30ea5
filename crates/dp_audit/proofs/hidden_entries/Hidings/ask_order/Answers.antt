use Rattle.std.proofs.Common.{[], take, refl, subst, arith}
use Rattle.dp_audit.specs.steps.Hiding.{Adds, some_at}
use Rattle.dp_audit.proofs.HidingLemmas.{noted_next, places_next}
use Rattle.dp_audit.proofs.hidden_entries.Hidings.ask_order.Goals as goal

pub loop-place-preserved : goal.loop-place-preserved
loop-place-preserved c =
    let plan = c.args.plan.now in
    let order = c.args.order.now in
    let place = c.loop-place.place in
    let new = c.add_places.new.places.keys in
    let places = places_next plan order place _ c.loop-place.places.keys new c.loop-place.invariant.after
    (omega (arith, c.loop-place-test.true)) refl c.loop-place.invariant.places (rw c.entries_at.ensures at c.in_ok-add_places.ensures) in
    record {
      after = omega arith;
      places = subst (λ n. Adds (some_at plan (take n order)) [] new) (omega arith) places;
      noted = noted_next plan c.args.from order place _ new c.args.self.now c.loop-place.self c.ask_context.new.self
          (omega (arith, c.loop-place-test.true)) refl places c.loop-place.invariant.noted c.in_ok-ask_context.ensures;
    }
