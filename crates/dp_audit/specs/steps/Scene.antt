-- The data with which the entries of a context are examined.
use Rattle.std.specs.Prelude.{◌≡◌, ℕ, Bool, List, []}
use Rattle.dp_lookup.specs.FoundEntry.{entries_at}
use Rattle.dp_lookup.specs.SearchOrder.{search_order}
use Rattle.dp_plan.specs.Plan.{PlanOf}
use Rattle.dp_audit.specs.Findings.{context_name, has_greater, has_lower, some_first}
use Rattle.dp_audit.specs.steps.Firsts.{Adds}
use Rattle.dp_audit.specs.steps.Neighbours.{AreMarks}
use Rattle.dp_audit.specs.steps.Hiding.{AreHidden}
use Rattle.dp_audit.specs.Labels.{IsNaming}
use Rattle.dp_audit.specs.Orders.{order_at}
use Rattle.dp_audit.specs.Unset.{AreSet}
use Rattle.dp_audit.specs.declared.scene.PlanKnowledge.{PlanKnowledge}
use Rattle.dp_audit.specs.declared.scene.Scene.{Scene}

-- the scene belongs to the context with the number
pub record IsScene (plan : PlanOf) (number : ℕ) (scene : Scene) : Type 0 where
  pub order : search_order plan scene.context.now ≡ order_at plan number
  pub greater : AreMarks (has_greater (entries_at plan number)) (entries_at plan number) scene.greater.now
  pub lower : AreMarks (has_lower (entries_at plan number)) (entries_at plan number) scene.lower.now
  pub firsts : Adds (some_first plan (order_at plan number)) [] scene.firsts.now.keys
  pub context : scene.context.now ≡ context_name plan number

-- the records are what may name the labels of the dialplan, what it sets and what it hides
pub record IsKnown (names : List ℕ → Bool) (plan : PlanOf) (known : PlanKnowledge) : Type 0 where
  pub naming : IsNaming names plan known.naming.now
  pub set : AreSet plan known.set.now
  pub hidden : AreHidden plan known.hidden.now
