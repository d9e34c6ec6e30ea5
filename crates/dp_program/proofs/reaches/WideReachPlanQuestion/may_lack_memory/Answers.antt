use Rattle.dp_program.specs.Meanings.{wide_meanings}
use Rattle.dp_program.specs.Requests.{options_of, question_of}
use Rattle.dp_program.proofs.ServesLemmas.{reaches_files_lack}
use Rattle.dp_program.proofs.reaches.WideReachPlanQuestion.may_lack_memory.Goals as goal

pub returns : goal.returns
returns c = λ files old. reaches_files_lack wide_meanings files (question_of c.args.self.now.question.now) (options_of c.args.self.now.options) old
