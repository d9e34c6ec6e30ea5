use Rattle.dp_program.specs.Meanings.{wide_meanings}
use Rattle.dp_program.specs.Requests.{drawing_of}
use Rattle.dp_program.proofs.ServesLemmas.{graphs_lack}
use Rattle.dp_program.proofs.graphs.WideDrawingPlanQuestion.may_lack_memory.Goals as goal

pub returns : goal.returns
returns c = λ files old. graphs_lack wide_meanings files (drawing_of c.args.self.now.question.now) c.args.self.now.explains old
