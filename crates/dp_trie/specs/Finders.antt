-- The tables that look-ups in a dialplan search: its tries, and the search orders of the contexts of the last look-ups.
use Rattle.std.specs.Prelude.{◌≡◌, ◌≤◌, ℕ, List, [], ◌∷◌, All, slice_get}
use Rattle.std.specs.Option.{option_map_or}
use Rattle.dp_lookup.specs.SearchOrder.{context_count, search_order, visit}
use Rattle.dp_plan.specs.Plan.{PlanOf}
use Rattle.dp_trie.specs.Known.{Keeps}
use Rattle.dp_trie.specs.declared.finder.Finder.{Finder}
use Rattle.dp_trie.specs.declared.orders.KeptOrder.{KeptOrder}
use Rattle.dp_trie.specs.declared.orders.Orders.{Orders}

-- the order has room for each context of the dialplan, and is that of its context; without a context it is empty
pub record IsKept (plan : PlanOf) (held : KeptOrder) : Type 0 where
  pub room : context_count plan ≤ held.order.room
  pub contexts : held.order.contexts ≡ option_map_or (visit plan []) held.context []

-- the order of the context of the last look-up: one of the kept orders, or else that context alone
abbrev pub order_now : Orders → List ℕ
order_now orders =
    option_map_or (λ place. option_map_or (λ held. held.order.contexts) (slice_get orders.kept place) []) orders.place
    (option_map_or (λ number. number ∷ []) orders.asked [])

-- each kept order is a search order, and the current order is that of the context of the last look-up
pub record AreOrders (plan : PlanOf) (orders : Orders) : Type 0 where
  pub kept : All (IsKept plan) orders.kept
  pub now : order_now orders ≡ option_map_or (visit plan []) orders.asked []

-- the tries keep the dialplan, and the orders are search orders of it
pub record IsFinder (plan : PlanOf) (finder : Finder) : Type 0 where
  pub keeps : Keeps plan finder.trie
  pub are : AreOrders plan finder.orders

-- the tries keep the dialplan, the orders are search orders of it, and the current order is that of the context with this name
pub record IsAt (plan : PlanOf) (context : List ℕ) (finder : Finder) : Type 0 where
  pub finds : IsFinder plan finder
  pub order : order_now finder.orders ≡ search_order plan context
