use Rattle.dp_queue.proofs.SiftingLemmas.{after-faultless_alone}
use Rattle.dp_queue.proofs.all_faults.show_faultless_lines_stand_alone.Goals as goal

pub returns : goal.returns
returns c = after-faultless_alone
