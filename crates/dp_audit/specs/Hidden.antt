-- The entries of a dialplan that never answer from some context, although its search order has their context.
use Rattle.std.specs.Prelude.{ℕ, Bool, ◌&&◌, List}
use Rattle.std.specs.List.{filter, list_any, range_with_len}
use Rattle.dp_lookup.specs.FoundEntry.{entries_at}
use Rattle.dp_lookup.specs.SearchOrder.{context_count, has}
use Rattle.dp_plan.specs.Plan.{PlanOf}
use Rattle.dp_plan.specs.Ranking.{shares_place}
use Rattle.dp_plan.specs.declared.entry.Entry.{Entry}
use Rattle.dp_plan.specs.declared.entry.EntryId.{EntryId}
use Rattle.dp_audit.specs.Orders.{before, order_at}

-- whether one of the contexts has an entry with the same name and priority
abbrev pub some_shares : PlanOf → List ℕ → Entry → Bool
some_shares plan contexts entry = list_any (λ number. list_any (shares_place entry) (entries_at plan number)) contexts

-- whether the entry is hidden from the context with a number: the search order of that context has the entry's own context, and an earlier
-- one that has an entry with the same name and priority
abbrev pub is_hidden : PlanOf → EntryId → Entry → ℕ → Bool
is_hidden plan id entry from =
    has (order_at plan from) id.context && some_shares plan (before id.context (order_at plan from)) entry

-- the contexts from which the entry is hidden, in the order of the file
unfoldable pub hidden_from : PlanOf → EntryId → Entry → List ℕ
hidden_from plan id entry = filter (is_hidden plan id entry) (range_with_len 0 (context_count plan))
