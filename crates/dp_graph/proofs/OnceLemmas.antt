-- No two arrows of an extension are the same.
use Rattle.std.proofs.Common.{◌≡◌, Bool, true, false, cond, ◌||◌, List, [], ◌∷◌, ◌++◌, fold, refl}
use Rattle.std.specs.List.{AllByRecursion, IsDistinct, flat_map, list_any}
use Rattle.dp_plan.specs.Plan.{PlanOf}
use Rattle.dp_plan.specs.declared.entry.EntryId.{EntryId}
use Rattle.dp_graph.specs.Arrows.{is_again, same_arrow, with_arrow}
use Rattle.dp_graph.specs.Jumps.{arrows_at, arrows_of}
use Rattle.dp_graph.specs.declared.arrow.Arrow.{Arrow}
use Rattle.dp_graph.specs.declared.exit.QueueExit.{QueueExit}

-- both tests fail
both_false : (a b : Bool) → (a || b) ≡ false → (a ≡ false) × (b ≡ false)
both_false true b e = absurd cc
both_false false b e = (refl, e)

-- one more element
all_with : {X : Type 0} (P : X → Type 0) (xs : List X) (x : X) → AllByRecursion P xs → P x → AllByRecursion P (xs ++ x ∷ [])
all_with P [] x all one = (one, tt)
all_with P (y ∷ xs) x all one = (all.0, all_with P xs x all.1 one)

-- an arrow that is not among others comes after them
distinct_with : (arrows : List Arrow) (arrow : Arrow) → IsDistinct is_again arrows → list_any (same_arrow arrow) arrows ≡ false → IsDistinct is_again (arrows ++ arrow ∷ [])
unfolding IsDistinct
distinct_with [] arrow distinct new = (tt, tt)
distinct_with (first ∷ arrows) arrow distinct new =
    let parts = both_false (same_arrow arrow first) (list_any (same_arrow arrow) arrows) new in
    (all_with (λ other. is_again first other ≡ false) arrows arrow distinct.0 parts.0, distinct_with arrows arrow distinct.1 parts.1)

-- one more arrow, unless it is among them
distinct_more : (arrows : List Arrow) (arrow : Arrow) → IsDistinct is_again arrows → IsDistinct is_again (with_arrow arrows arrow)
distinct_more arrows arrow distinct = by (list_any (same_arrow arrow) arrows) (distinct_with arrows arrow distinct) where
  by : (t : Bool) → (t ≡ false → IsDistinct is_again (arrows ++ arrow ∷ [])) → IsDistinct is_again (cond t arrows (arrows ++ arrow ∷ []))
  by true more = distinct
  by false more = more refl

-- all arrows, each once
distinct_all : (arrows more : List Arrow) → IsDistinct is_again arrows → IsDistinct is_again (fold with_arrow arrows more)
distinct_all arrows [] distinct = distinct
distinct_all arrows (arrow ∷ more) distinct = distinct_all (with_arrow arrows arrow) more (distinct_more arrows arrow distinct)

pub arrows_are_distinct : (plan : PlanOf) (exits : List QueueExit) (ids : List EntryId) → IsDistinct is_again (arrows_of plan exits ids)
unfolding arrows_of IsDistinct
arrows_are_distinct plan exits ids = distinct_all [] (flat_map (arrows_at plan exits) ids) tt
