use Rattle.dp_program.specs.Meanings.{wide_meanings}
use Rattle.dp_program.specs.Requests.{reach_diff_of}
use Rattle.dp_program.proofs.ServesLemmas.{reach_diffs_lack}
use Rattle.dp_program.proofs.reach_diffs.WideReachDiffPlanQuestion.may_lack_memory.Goals as goal

pub returns : goal.returns
returns c = λ files old. reach_diffs_lack wide_meanings (reach_diff_of c.args.self.now.question.now) c.args.self.now.explains files old
