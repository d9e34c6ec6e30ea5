use Rattle.std.proofs.Common.{◌+◌}
use Rattle.dp_debug.proofs.CutLemmas.{HasTaken-first, HasTaken-further}
use Rattle.dp_debug.proofs.laws.resuming.Goals as goal

pub returns-clause-both : goal.returns-clause-both
returns-clause-both c = λ meanings w between after events breaks first second trace whole run on.
    HasTaken-further meanings w between after events breaks first.taken (first.taken + 1) second trace whole
    (HasTaken-first meanings w events breaks first trace between run) on

pub returns-clause-first : goal.returns-clause-first
returns-clause-first c = λ meanings w after events breaks halt trace run. HasTaken-first meanings w events breaks halt trace after run

pub returns-clause-further : goal.returns-clause-further
returns-clause-further c = λ meanings w between after events breaks taken halt trace whole before on.
    HasTaken-further meanings w between after events breaks taken (taken + 1) halt trace whole before on
