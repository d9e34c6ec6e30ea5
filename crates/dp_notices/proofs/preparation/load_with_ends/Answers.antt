use Rattle.dp_notices.specs.Loading.{loading_now}
use Rattle.dp_notices.proofs.LoadingLemmas.{faultless_ends}
use Rattle.dp_notices.proofs.preparation.load_with_ends.Goals as goal

-- no line has a fault
pub append_ends-requires : goal.append_ends-requires
append_ends-requires c =
    faultless_ends c.args.lines.items (loading_now c.args.loading) c.show_faults_decide_loading.ensures.first c.show_faults_decide_loading.ensures.text c.requires.loads c.args.loading.ends.items c.requires.ends
