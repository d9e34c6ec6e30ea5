use Rattle.dp_plan.proofs.SiftingLemmas.{items-faultless_alone}
use Rattle.dp_plan.proofs.all_faults.show_faultless_lines_stand_alone.Goals as goal

pub returns : goal.returns
returns c = items-faultless_alone
