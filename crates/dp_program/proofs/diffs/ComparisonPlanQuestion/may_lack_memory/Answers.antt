use Rattle.dp_program.proofs.DiffLemmas.{diffs_lack}
use Rattle.dp_program.proofs.diffs.ComparisonPlanQuestion.may_lack_memory.Goals as goal

pub returns : goal.returns
returns c = λ files old. (diffs_lack files c.args.self.now.paths.now.before.now c.args.self.now.paths.now.after.now old, tt)
