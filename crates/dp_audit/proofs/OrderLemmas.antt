-- A search order has no context twice.
use Rattle.std.proofs.Common.{◌≡◌, ℕ, zero, suc, ◌==◌, Bool, true, false, ◌||◌, List, [], ◌∷◌, ◌++◌, Option, Some, None, slice_get, if◌then◌else◌, refl, sym, ◌∙◌}
use Rattle.std.specs.Prelude.{⊤, fold}
use Rattle.std.specs.Option.{option_map_or}
use Rattle.std.proofs.lemmas.Bool.{eqb-false}
use Rattle.dp_lookup.specs.SearchOrder.{Visit, context_count, has, is_open, links_at, visit, visit_in}
use Rattle.dp_lookup.proofs.SeenLemmas.{has-push_other, open_parts}
use Rattle.dp_plan.specs.Contexts.{PlanContext}
use Rattle.dp_plan.specs.Lookup.{number_of}
use Rattle.dp_plan.specs.Plan.{PlanOf}
use Rattle.dp_audit.specs.Orders.{order_at}

-- no number occurs twice
abbrev pub AreOnce : List ℕ → Type 0
AreOnce [] = ⊤
AreOnce (number ∷ numbers) = (has numbers number ≡ false) × AreOnce numbers

or_parts : (a b : Bool) → (a || b) ≡ false → (a ≡ false) × (b ≡ false)
or_parts false b none = (refl, none)
or_parts true b none = absurd cc

-- a new number after the others
once_push : (numbers : List ℕ) (number : ℕ) → AreOnce numbers → has numbers number ≡ false → AreOnce (numbers ++ number ∷ [])
once_push [] number once new = (refl, tt)
once_push (first ∷ numbers) number once new =
    let parts = or_parts (first == number) (has numbers number) new in
    (has-push_other numbers number first (λ same. eqb-false first number parts.0 (sym same)) ∙ once.0, once_push numbers number once.1 parts.1)

module _ (plan : PlanOf) where
  abbrev Keeps : Visit → Type 0
  Keeps f = (seen : List ℕ) (number : ℕ) → AreOnce seen → AreOnce (f seen number)

  fold_keeps : (f : Visit) → Keeps f → (links seen : List ℕ) → AreOnce seen → AreOnce (fold f seen links)
  fold_keeps f keeps [] seen once = once
  fold_keeps f keeps (number ∷ links) seen once = fold_keeps f keeps links (f seen number) (keeps seen number once)

  visited_keeps : (f : Visit) → Keeps f → (seen : List ℕ) (number : ℕ) → AreOnce seen → (opened : Bool) → is_open plan seen number ≡ opened
      → AreOnce (if opened then fold f (seen ++ number ∷ []) (links_at plan number) else seen)
  visited_keeps f keeps seen number once true opened =
      fold_keeps f keeps (links_at plan number) (seen ++ number ∷ []) (once_push seen number once ((open_parts plan seen number opened).1))
  visited_keeps f keeps seen number once false closed = once

  visit_keeps : (most : ℕ) → Keeps (visit_in most plan)
  visit_keeps zero seen number once = once
  visit_keeps (suc most) seen number once = visited_keeps (visit_in most plan) (visit_keeps most) seen number once (is_open plan seen number) refl

  -- the search order of a context has no context twice
  pub order_once : (number : ℕ) → AreOnce (order_at plan number)
  unfolding visit
  order_once number = of_context (slice_get plan.contexts number)
    where
      of_number : (o : Option ℕ) → AreOnce (option_map_or (visit plan []) o [])
      of_number None = tt
      of_number (Some first) = visit_keeps (context_count plan) [] first tt

      of_context : (o : Option PlanContext) → AreOnce (option_map_or (λ context. option_map_or (visit plan []) (number_of plan context.name) []) o [])
      of_context None = tt
      of_context (Some context) = of_number (number_of plan context.name)
