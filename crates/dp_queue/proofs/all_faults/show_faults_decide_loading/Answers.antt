use Rattle.dp_queue.proofs.SiftingLemmas.{faults-none, faults-first, faults-text}
use Rattle.dp_queue.proofs.all_faults.show_faults_decide_loading.Goals as goal

pub returns-clause-none : goal.returns-clause-none
returns-clause-none c = faults-none

pub returns-clause-first : goal.returns-clause-first
returns-clause-first c = faults-first

pub returns-clause-text : goal.returns-clause-text
returns-clause-text c = faults-text
