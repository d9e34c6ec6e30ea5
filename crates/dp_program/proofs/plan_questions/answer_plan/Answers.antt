use Rattle.std.proofs.Common.{ℕ, List, subst}
use Rattle.dp_program.specs.Files.{ByteSource}
use Rattle.dp_program.proofs.plan_questions.answer_plan.Goals as goal

-- the files are those in which the dialplan has this text
pub returns-clause-serves : goal.returns-clause-serves
returns-clause-serves g c =
    let old = g.W.WriteTold.contents c.args.output.now in
    let new = g.W.WriteTold.contents c.answer.new.output in
    subst (λ (made : List ℕ → ByteSource). g.Q.PlanQuestion.serves c.args.asking.now.question.now made old new c.answer.result) c.made_files-made.ensures c.answer.ensures.serves
