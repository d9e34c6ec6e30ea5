use Rattle.dp_plan.proofs.NamedLemmas.{plan_and_notes-named, plan_and_notes-apart}
use Rattle.dp_plan.proofs.plan.show_loaded_entries_known.Goals as goal

pub returns-clause-named : goal.returns-clause-named
returns-clause-named c = plan_and_notes-named

pub returns-clause-apart : goal.returns-clause-apart
returns-clause-apart c = plan_and_notes-apart
