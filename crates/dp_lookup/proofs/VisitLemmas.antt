-- The visit of a context satisfies its equation, and nothing else does.
use Rattle.std.proofs.Common.{◌≡◌, ℕ, zero, suc, ◌+◌, ◌≤◌, Bool, true, false, List, [], ◌∷◌, ◌++◌, cond, arith, refl, sym, ap, ◌∙◌}
use Rattle.std.specs.Prelude.{fold}
use Rattle.dp_plan.specs.Plan.{PlanOf}
use Rattle.dp_lookup.specs.SearchOrder.{context_count, is_open, links_at, Visit, visited_by, visit_in, visit, IsVisit, IsTheVisit}
use Rattle.dp_lookup.specs.steps.Filling.{unseen_weight, one}
use Rattle.dp_lookup.proofs.SeenLemmas.{open_parts, unseen-push, unseen-push_le, unseen_all}

module _ (plan : PlanOf) where
  -- the number of contexts still to be visited
  abbrev unvisited_count : List ℕ → ℕ
  unvisited_count seen = unseen_weight one (context_count plan) seen

  -- an open context is one of the remaining ones
  unvisited_count-open : (seen : List ℕ) (c : ℕ) → is_open plan seen c ≡ true → unvisited_count (seen ++ c ∷ []) + 1 ≡ unvisited_count seen
  unvisited_count-open seen c e = let parts = open_parts plan seen c e in unseen-push one (context_count plan) seen c parts.0 parts.1

  abbrev Shrinks : Visit → Type 0
  Shrinks f = (seen : List ℕ) (c : ℕ) → unvisited_count (f seen c) ≤ unvisited_count seen

  fold-shrinks : (f : Visit) → Shrinks f → (links seen : List ℕ) → unvisited_count (fold f seen links) ≤ unvisited_count seen
  fold-shrinks f shrinks [] seen = omega arith
  fold-shrinks f shrinks (c ∷ links) seen =
      let first = shrinks seen c in
      let rest = fold-shrinks f shrinks links (f seen c) in
      omega (arith, first, rest)

  visited-shrinks : (f : Visit) → Shrinks f → (seen : List ℕ) (c : ℕ) (open_now : Bool) → unvisited_count (cond open_now (fold f (seen ++ c ∷ []) (links_at plan c)) seen) ≤ unvisited_count seen
  visited-shrinks f shrinks seen c true =
      let rest = fold-shrinks f shrinks (links_at plan c) (seen ++ c ∷ []) in
      let here = unseen-push_le one (context_count plan) seen c in
      omega (arith, rest, here)
  visited-shrinks f shrinks seen c false = omega arith

  -- a visit leaves no more to be visited than before
  visit_in-shrinks : (most : ℕ) → Shrinks (visit_in most plan)
  visit_in-shrinks zero seen c = omega arith
  visit_in-shrinks (suc most) seen c = visited-shrinks (visit_in most plan) (visit_in-shrinks most) seen c (is_open plan seen c)

  abbrev AgreeUpTo : ℕ → Visit → Visit → Type 0
  AgreeUpTo most f g = (seen : List ℕ) (c : ℕ) → unvisited_count seen ≤ most → f seen c ≡ g seen c

  fold-agree : (most : ℕ) (f g : Visit) → Shrinks g → AgreeUpTo most f g → (links seen : List ℕ) → unvisited_count seen ≤ most → fold f seen links ≡ fold g seen links
  fold-agree most f g shrinks agree [] seen few = refl
  fold-agree most f g shrinks agree (c ∷ links) seen few =
      let here = shrinks seen c in
      ap (λ s. fold f s links) (agree seen c few) ∙ fold-agree most f g shrinks agree links (g seen c) (omega (arith, here, few))

  visited-agree : (most : ℕ) (f g : Visit) → Shrinks g → AgreeUpTo most f g → (seen : List ℕ) (c : ℕ) → unvisited_count seen ≤ suc most → (open_now : Bool) → is_open plan seen c ≡ open_now → cond open_now (fold f (seen ++ c ∷ []) (links_at plan c)) seen ≡ cond open_now (fold g (seen ++ c ∷ []) (links_at plan c)) seen
  visited-agree most f g shrinks agree seen c few true e =
      let one_less = unvisited_count-open seen c e in
      fold-agree most f g shrinks agree (links_at plan c) (seen ++ c ∷ []) (omega (arith, one_less, few))
  visited-agree most f g shrinks agree seen c few false e = refl

  none_open : (seen : List ℕ) (c : ℕ) → unvisited_count seen ≤ zero → (open_now : Bool) → is_open plan seen c ≡ open_now → is_open plan seen c ≡ false
  none_open seen c few true e = let one_less = unvisited_count-open seen c e in absurd (omega (arith, one_less, few))
  none_open seen c few false e = e

  -- if visits are nested no deeper than the number of remaining contexts, only one family satisfies the steps
  agree : (f : ℕ → Visit) → ((most : ℕ) (seen : List ℕ) (c : ℕ) → f (suc most) seen c ≡ visited_by plan (f most) seen c) → ((seen : List ℕ) (c : ℕ) → is_open plan seen c ≡ false → f zero seen c ≡ seen) → (most : ℕ) → AgreeUpTo most (f most) (visit_in most plan)
  agree f step last zero seen c few = last seen c (none_open seen c few (is_open plan seen c) refl)
  agree f step last (suc most) seen c few =
      step most seen c ∙ visited-agree most (f most) (visit_in most plan) (visit_in-shrinks most) (agree f step last most) seen c few (is_open plan seen c) refl

  -- nothing is visited if the context is not open
  pub closed : (f : Visit) (seen : List ℕ) (c : ℕ) → is_open plan seen c ≡ false → visited_by plan f seen c ≡ seen
  closed f seen c e = ap (λ b. cond b (fold f (seen ++ c ∷ []) (links_at plan c)) seen) e

  -- one more level of visits changes nothing
  visit_in-more : (seen : List ℕ) (c : ℕ) → visit_in (suc (context_count plan)) plan seen c ≡ visit_in (context_count plan) plan seen c
  visit_in-more seen c =
      agree (λ most. visit_in (suc most) plan) (λ most seen c. refl) (λ seen c e. closed (visit_in zero plan) seen c e) (context_count plan) seen c (unseen_all (context_count plan) seen)

  pub visit-equation : IsVisit plan (visit plan)
  unfolding visit
  visit-equation seen c = sym (visit_in-more seen c)

  visit-only : (g : Visit) → IsVisit plan g → (seen : List ℕ) (c : ℕ) → g seen c ≡ visit plan seen c
  unfolding visit
  visit-only g meets seen c =
      agree (λ most. g) (λ most seen c. meets seen c) (λ seen c e. meets seen c ∙ closed g seen c e) (context_count plan) seen c (unseen_all (context_count plan) seen)

  pub the_visit : IsTheVisit plan (visit plan)
  the_visit = record { meets = visit-equation; only = visit-only }
