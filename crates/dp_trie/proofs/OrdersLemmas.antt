-- The search order of a context that includes nothing.
use Rattle.std.proofs.Common.{◌≡◌, ◌∙◌, ◌<◌, ℕ, List, [], ◌∷◌, Option, Some, true, cond, length, map, arith, refl, ap, sym, subst}
use Rattle.std.proofs.lemmas.Bool.{eqb-true, lt-ltb}
use Rattle.std.proofs.lemmas.List.{length-map}
use Rattle.std.proofs.lemmas.List.Quantifiers.{position-Some}
use Rattle.std.specs.Prelude.{◌==◌, ◌&&◌, fold}
use Rattle.std.specs.Option.{option_map_or}
use Rattle.dp_lookup.specs.SearchOrder.{context_count, is_open, link_of, links_at, visit}
use Rattle.dp_lookup.proofs.VisitLemmas.{visit-equation}
use Rattle.dp_plan.specs.Contexts.{PlanContext}
use Rattle.dp_plan.specs.Lookup.{includes_at, number_of}
use Rattle.dp_plan.specs.Plan.{PlanOf}

-- the number of a name is that of a context
number_within : (plan : PlanOf) (name : List ℕ) (number : ℕ) → number_of plan name ≡ Some number → number < context_count plan
number_within plan name number named =
    let names = map (λ (context : PlanContext). context.name) plan.contexts in
    subst (λ n. number < n) (length-map plan.contexts (λ (context : PlanContext). context.name)) (position-Some _ names number [] named).0

-- after the context no include is visited
visited-none : (plan : PlanOf) (seen : List ℕ) (names : List (List ℕ)) → (length names == 0) ≡ true → fold (visit plan) seen (map (link_of plan) names) ≡ seen
visited-none plan seen [] none = refl
visited-none plan seen (name ∷ names) none = (let wrong = eqb-true (length (name ∷ names)) 0 none in absurd (omega (arith, wrong)))

-- the order is only the context
pub alone : (plan : PlanOf) (name : List ℕ) (asked : Option ℕ) (number : ℕ) → asked ≡ number_of plan name → asked ≡ Some number → (length (includes_at plan number) == 0) ≡ true
    → option_map_or (λ n. n ∷ []) asked [] ≡ option_map_or (visit plan []) asked []
alone plan name asked number is_of there none =
    let to_visit : is_open plan [] number ≡ true = ap (λ b. b && true) (lt-ltb number (context_count plan) (number_within plan name number (sym is_of ∙ there))) in
    let visited : visit plan [] number ≡ number ∷ [] =
    visit-equation plan [] number
    ∙ (ap (λ b. cond b (fold (visit plan) (number ∷ []) (links_at plan number)) []) to_visit
    ∙ visited-none plan (number ∷ []) (includes_at plan number) none) in
    ap (λ o. option_map_or (λ n. n ∷ []) o []) there ∙ (sym visited ∙ ap (λ o. option_map_or (visit plan []) o []) (sym there))
