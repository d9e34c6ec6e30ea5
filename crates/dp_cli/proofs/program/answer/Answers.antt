use Rattle.std.proofs.Common.{ap}
use Rattle.dp_cli.specs.Status.{explained_status, sink}
use Rattle.dp_cli.proofs.AnswerLemmas.{fulfils_lacks, mistake_status, no_kind}
use Rattle.dp_cli.proofs.program.answer.Goals as goal

-- words that are a request are refused only if memory runs out
pub returns-in-Err-clause-fulfils : goal.returns-in-Err-clause-fulfils
returns-in-Err-clause-fulfils g c = λ want none is.
    let memory = no_kind _ c.in-Err.error.kind none c.in-Err.ensures.kinds in
    fulfils_lacks _ _ want _ _ _ _ _ c.in-Err.error.kind _ memory
    (ap (λ out. sink (g.W.WriteTold.contents out) (g.W.WriteTold.has_failed out)) (c.refuse.ensures.mistake (ap explained_status memory))) c.refuse.ensures.refuses

pub returns-in-Err-clause-silent : goal.returns-in-Err-clause-silent
returns-in-Err-clause-silent g c = λ some all. c.refuse.ensures.mistake (mistake_status _ c.in-Err.error.kind c.in-Err.ensures.kinds all)
