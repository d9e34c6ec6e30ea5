-- Looking up numbers and names in a dialplan, and in the lines of its entries.
use Rattle.std.specs.Prelude.{◌≡◌, ℕ, List, [], Option, map, slice_get, position, MatchOption}
use Rattle.std.specs.Option.{option_and_then, option_map_or}
use Rattle.dp_conf.specs.Words.{same_text}
use Rattle.dp_plan.specs.Plan.{PlanOf}
use Rattle.dp_plan.specs.Ranking.{IsRanking}
use Rattle.dp_plan.specs.declared.entry.Entry.{Entry}
use Rattle.dp_plan.specs.declared.entry.EntryId.{EntryId}

-- the entry with these numbers
abbrev pub entry_at : PlanOf → EntryId → Option Entry
entry_at plan id = option_and_then (λ context. slice_get context.entries id.entry) (slice_get plan.contexts id.context)

-- the line of the entry with these numbers
abbrev pub line_at : List (List ℕ) → EntryId → Option ℕ
line_at lines id = option_and_then (λ context. slice_get context id.entry) (slice_get lines id.context)

-- the number of the context with a name
abbrev pub number_of : PlanOf → List ℕ → Option ℕ
number_of plan name = position (same_text name) (map (λ context. context.name) plan.contexts)

-- the names of the contexts that the context with a number includes, in file order
abbrev pub includes_at : PlanOf → ℕ → List (List ℕ)
includes_at plan number = option_map_or (λ context. context.includes) (slice_get plan.contexts number) []

-- those of the context with a name; an unknown context includes none
abbrev pub includes_of : PlanOf → List ℕ → List (List ℕ)
includes_of plan name = option_map_or (includes_at plan) (number_of plan name) []

-- the entries of the context with a number, ranked; there are none if the context does not exist
abbrev pub IsRankedAt : PlanOf → ℕ → List EntryId → Type 0
IsRankedAt plan number ids =
    MatchOption (slice_get plan.contexts number) (ids ≡ []) (λ context. IsRanking number context.entries ids)

-- the entries of the context with a name, ranked
abbrev pub IsRankedOf : PlanOf → List ℕ → List EntryId → Type 0
IsRankedOf plan name ids = MatchOption (number_of plan name) (ids ≡ []) (λ number. IsRankedAt plan number ids)
