-- The tables that look-ups in a dialplan search.
use Rattle.dp_plan.specs.Plan.{PlanOf}
use Rattle.dp_trie.specs.Finders.{IsFinder}
use Rattle.dp_machine.specs.declared.directory.Tables.{Tables}
use Rattle.dp_machine.specs.steps.Templates.{AreTemplates}

-- the finder belongs to the dialplan, and the templates to its entries
pub record AreTables (plan : PlanOf) (tables : Tables) : Type 0 where
  pub finds : IsFinder plan tables.finder
  pub templates : AreTemplates plan.contexts tables.templates
