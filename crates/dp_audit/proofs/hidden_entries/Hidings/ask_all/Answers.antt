use Rattle.std.proofs.Common.{[], ◌+◌, List, ℕ, subst, ◌∙◌}
use Rattle.dp_audit.specs.steps.Hiding.{Grows, all_hidden, numbers_asked}
use Rattle.dp_audit.specs.Orders.{order_at}
use Rattle.dp_audit.proofs.HidingLemmas.{all_hidden_more, grows_both}
use Rattle.dp_audit.proofs.hidden_entries.Hidings.ask_all.Goals as goal

pub loop-number-preserved : goal.loop-number-preserved
loop-number-preserved c =
    let plan = c.args.plan.now in
    let k = c.loop-number.number in
    record {
      noted = grows_both c.args.self.now c.loop-number.self c.ask_order.new.self
          (all_hidden plan k) (numbers_asked plan k [] (order_at plan k)) (all_hidden plan (k + 1)) c.loop-number.invariant.noted
          (subst (λ (order : List ℕ). Grows c.loop-number.self c.ask_order.new.self (numbers_asked plan k [] order))
          (c.contexts.ensures ∙ c.fill.ensures.order) c.in_ok-ask_order.ensures)
          (all_hidden_more plan k);
      room = c.fill.ensures.room ∙ c.loop-number.invariant.room;
    }
