use Rattle.std.proofs.Common.{◌+◌, arith, sym, subst, ◌∙◌}
use Rattle.std.proofs.lemmas.Option.{slice_get-get_or}
use Rattle.dp_plan.specs.declared.entry.EntryId.{EntryId}
use Rattle.dp_audit.proofs.LeastLemmas.{IsLeastBelow, least_begin, least_changed, least_kept, least_of_all}
use Rattle.dp_audit.proofs.loops.least_from.Goals as goal
use Rattle.dp_audit.proofs.loops.least_from.Goals.{then-is_before, else-is_before}

pub loop-number-init : goal.loop-number-init
loop-number-init c = record {
  after = omega arith;
  least = least_begin c.args.path.now c.args.place _ (slice_get-get_or c.args.path.now c.args.place _ c.requires);
}

pub loop-number-preserved : goal.loop-number-preserved
loop-number-preserved c =
    let path = c.args.path.now in
    let place = c.args.place in
    let number = c.loop-number.number in
    elim c.if-is_before.branch [
      | then-is_before w ↦ record {
        after = omega arith;
        least = subst (λ (x : EntryId). IsLeastBelow path place (number + 1) x) (sym w.least-is)
            (least_changed path place number c.loop-number.least _ c.loop-number.invariant.after (slice_get-get_or path number _ c.loop-number-test.true)
            c.loop-number.invariant.least (sym c.is_before.ensures ∙ w.if-is_before.true));
      }
      | else-is_before w ↦ record {
        after = omega arith;
        least = subst (λ (x : EntryId). IsLeastBelow path place (number + 1) x) (sym w.least-is)
            (least_kept path place number c.loop-number.least _ (slice_get-get_or path number _ c.loop-number-test.true)
            c.loop-number.invariant.least (sym c.is_before.ensures ∙ w.if-is_before.false));
      }
    ]

pub returns : goal.returns
returns c = least_of_all c.args.path.now c.args.place c.loop-number.number c.loop-number.least (omega arith) c.loop-number.invariant.least
