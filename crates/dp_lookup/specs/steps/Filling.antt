-- A step of the code: the state of the walk through a dialplan's contexts, with its marks and its frames. Its result is
-- `visit` of SearchOrder.
use Rattle.std.specs.Prelude.{◌≡◌, ℕ, zero, suc, ◌+◌, ◌<◌, ◌≤◌, Bool, List, [], ◌∷◌, ◌++◌, length, drop, slice_get, Some, if◌then◌else◌}
use Rattle.dp_plan.specs.Plan.{PlanOf}
use Rattle.dp_lookup.specs.SearchOrder.{context_count, links_at, has, AreContexts}
use Rattle.dp_lookup.specs.declared.visit.ContextVisit.{ContextVisit}

-- there is a mark for each number below a bound, and it says whether the order contains the number
abbrev pub IsMarked : List ℕ → List Bool → Type 0
IsMarked order marks = (number : ℕ) → number < length marks → slice_get marks number ≡ Some (has order number)

-- the remaining includes of a context
abbrev pub links_left : PlanOf → ContextVisit → List ℕ
links_left plan frame = drop frame.next (links_at plan frame.context)

-- all remaining includes; those of the last context come first
abbrev pub pending : PlanOf → List ContextVisit → List ℕ
pending plan [] = []
pending plan (frame ∷ frames) = pending plan frames ++ links_left plan frame

-- the numbers below a bound that were not seen, each counted with its weight
abbrev pub unseen_weight : (ℕ → ℕ) → ℕ → List ℕ → ℕ
unseen_weight weight zero seen = 0
unseen_weight weight (suc bound) seen = unseen_weight weight bound seen + (if has seen bound then 0 else weight bound)

abbrev pub one : ℕ → ℕ
one number = 1

-- the number of includes of a context
abbrev pub link_count : PlanOf → ℕ → ℕ
link_count plan number = length (links_at plan number)

-- the number of includes still to be checked
abbrev pub work : PlanOf → List ℕ → List ContextVisit → ℕ
work plan order frames = unseen_weight (link_count plan) (context_count plan) order + length (pending plan frames)

-- the marks are those of the order, which contains no context twice; and each context in progress is in it
pub record IsFilling (plan : PlanOf) (order : List ℕ) (marks : List Bool) (frames : List ContextVisit) : Type 0 where
  pub marked : IsMarked order marks
  pub counted : unseen_weight one (context_count plan) order + length order ≡ context_count plan
  pub short : length frames ≤ length order
  pub within : AreContexts plan order
