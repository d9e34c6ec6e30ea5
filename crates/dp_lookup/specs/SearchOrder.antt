-- The contexts in which a look-up searches, in order.
use Rattle.std.specs.Prelude.{◌≡◌, ℕ, zero, suc, ◌<◌, ◌==◌, nat_lt, Bool, not, ◌&&◌, List, [], ◌∷◌, ◌++◌, length, map, fold, All, unwrap_or, if◌then◌else◌}
use Rattle.std.specs.List.{list_any}
use Rattle.std.specs.Option.{option_map_or}
use Rattle.dp_plan.specs.Lookup.{number_of, includes_at}
use Rattle.dp_plan.specs.Plan.{PlanOf}

-- a search order: the numbers of its contexts, and the number of contexts for which each of its lists has room, no more and no fewer
pub record OrderOf : Type 0 where
  pub contexts : List ℕ
  pub room : ℕ

-- the number is one of these
abbrev pub has : List ℕ → ℕ → Bool
has seen number = list_any (λ c. c == number) seen

-- the number of contexts of the dialplan
abbrev pub context_count : PlanOf → ℕ
context_count plan = length plan.contexts

-- the context is still to be visited: it is one of the dialplan's, and not one of those seen
abbrev pub is_open : PlanOf → List ℕ → ℕ → Bool
is_open plan seen number = nat_lt number (context_count plan) && not (has seen number)

-- the number of the context with an included name; an unknown name has a number that no context has
abbrev pub link_of : PlanOf → List ℕ → ℕ
link_of plan name = unwrap_or (number_of plan name) (context_count plan)

-- the numbers of the contexts that the context with a number includes, in file order
abbrev pub links_at : PlanOf → ℕ → List ℕ
links_at plan number = map (link_of plan) (includes_at plan number)

-- the contexts seen before, a context, and the contexts seen after its visit
abbrev pub Visit : Type 0
Visit = List ℕ → ℕ → List ℕ

-- a visit of a context that is still to be visited adds the context and then visits its includes; of any other, it adds nothing
abbrev pub visited_by : PlanOf → Visit → Visit
visited_by plan inner seen number =
    if is_open plan seen number then fold inner (seen ++ number ∷ []) (links_at plan number) else seen

-- nested visits, at most this many
abbrev pub visit_in : ℕ → PlanOf → Visit
visit_in zero plan seen number = seen
visit_in (suc most) plan seen number = visited_by plan (visit_in most plan) seen number

-- the visit of a context; visits are nested no deeper than the number of the dialplan's contexts
unfoldable pub visit : PlanOf → Visit
visit plan = visit_in (context_count plan) plan

-- the equation that defines a visit
abbrev pub IsVisit : PlanOf → Visit → Type 0
IsVisit plan f = (seen : List ℕ) (number : ℕ) → f seen number ≡ visited_by plan f seen number

-- the visit satisfies this equation, and nothing else does
pub record IsTheVisit (plan : PlanOf) (f : Visit) : Type 0 where
  pub meets : IsVisit plan f
  pub only : (g : Visit) → IsVisit plan g → (seen : List ℕ) (number : ℕ) → g seen number ≡ f seen number

-- the order of the context with a name: the context, then its includes, depth first; an unknown context has none
abbrev pub search_order : PlanOf → List ℕ → List ℕ
search_order plan name = option_map_or (visit plan []) (number_of plan name) []

-- each number is that of a context
abbrev pub AreContexts : PlanOf → List ℕ → Type 0
AreContexts plan order = All (λ number. number < context_count plan) order
