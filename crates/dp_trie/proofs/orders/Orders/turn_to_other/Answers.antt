use Rattle.std.proofs.Common.{◌≡◌, ◌∙◌, [], true, length, ap, sym, subst}
use Rattle.std.specs.Prelude.{◌==◌}
use Rattle.std.specs.Option.{option_map_or}
use Rattle.dp_lookup.specs.SearchOrder.{visit}
use Rattle.dp_trie.proofs.OrdersLemmas.{alone}
use Rattle.dp_trie.proofs.orders.Orders.turn_to_other.Goals as goal

pub returns-then-is_empty-clause-contexts : goal.returns-then-is_empty-clause-contexts
returns-then-is_empty-clause-contexts c =
    alone c.args.plan.now c.args.context.now _ c.in-Some.number c.number_of-self.ensures c.in-Some.is
    (subst (λ names. (length names == 0) ≡ true) c.includes_at.ensures (sym c.is_empty.ensures ∙ c.if-is_empty.true))
    ∙ ap (λ o. option_map_or (visit c.args.plan.now []) o []) c.number_of-self.ensures

pub returns-then-is_empty-clause-orders : goal.returns-then-is_empty-clause-orders
returns-then-is_empty-clause-orders c = record {
  kept = c.requires.kept;
  now =
      alone c.args.plan.now c.args.context.now _ c.in-Some.number c.number_of-self.ensures c.in-Some.is
      (subst (λ names. (length names == 0) ≡ true) c.includes_at.ensures (sym c.is_empty.ensures ∙ c.if-is_empty.true));
}
