use Rattle.std.proofs.Common.{rules, ◌+◌, sym, ap, ◌∙◌, arith}
use Rattle.dp_commands.proofs.DealLemmas.{own-more, other-more}
use Rattle.dp_commands.proofs.deal.own_count.Goals as goal
use Rattle.dp_commands.proofs.deal.own_count.Goals.{then-at-count, else-at-count}

pub loop-at-preserved : goal.loop-at-preserved
loop-at-preserved c =
    let events = c.args.events.now in
    let count = c.args.count in
    let number = c.args.number in
    let at = c.loop-at.at in
    elim c.if-at-count.branch [
      | then-at-count w ↦
          record {
            own = w.own-is ∙ (ap (λ n. n + 1) c.loop-at.invariant.own ∙ sym (own-more at count number events c.loop-at-test.true (search rules)));
            within = omega (arith, w.own-is, c.loop-at.invariant.within);
          }
      | else-at-count w ↦
          record {
            own = w.own-is ∙ (c.loop-at.invariant.own ∙ sym (other-more at count number events c.loop-at-test.true (search rules)));
            within = omega (arith, w.own-is, c.loop-at.invariant.within);
          }
    ]
