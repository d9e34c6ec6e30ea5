-- Dialplans for cases.
use Rattle.std.proofs.Common.{ℕ, List, [], None}
use Rattle.dp_pattern.specs.Name.{Meaning}
use Rattle.dp_plan.specs.Contexts.{PlanContext}
use Rattle.dp_plan.specs.Plan.{PlanOf}
use Rattle.dp_plan.specs.declared.entry.Entry.{Entry}
use Rattle.dp_plan.specs.declared.entry.EntryId.{EntryId}

abbrev pub plan_of : List PlanContext → PlanOf
plan_of contexts = record { globals = []; contexts = contexts }

abbrev pub context_of : List ℕ → List Entry → List (List ℕ) → PlanContext
context_of name entries includes = record { name = name; entries = entries; includes = includes }

-- an entry that runs an application with arguments
abbrev pub runs : Meaning → ℕ → List ℕ → List ℕ → Entry
runs name priority application arguments = record { name = name; priority = priority; label = None; application = application; arguments = arguments }

abbrev pub id_of : ℕ → ℕ → EntryId
id_of context entry = record { context = context; entry = entry }
