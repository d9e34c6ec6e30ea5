use Rattle.dp_conf.proofs.CutLemmas.{Finds-from_first, cut_once-none, cut_once-at}
use Rattle.dp_conf.proofs.cut.cut_once.Goals as goal
use Rattle.std.proofs.Common.{None, Some}

pub returns-in-None : goal.returns-in-None
returns-in-None c =
    cut_once-none c.args.byte c.args.text.now (Finds-from_first c.args.byte c.args.text.now None c.in-None.ensures)

pub returns-in-Some : goal.returns-in-Some
returns-in-Some c =
    let found = Finds-from_first c.args.byte c.args.text.now (Some c.in-Some.at) c.in-Some.ensures in
    cut_once-at c.args.byte c.args.text.now c.in-Some.at found.0 found.1
