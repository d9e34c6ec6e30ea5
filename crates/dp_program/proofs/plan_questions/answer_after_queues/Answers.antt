use Rattle.std.proofs.Common.{ℕ, List, Err, sym, subst}
use Rattle.dp_program.specs.Dialplans.{text_now, with_text}
use Rattle.dp_program.specs.Files.{ByteSource}
use Rattle.dp_program.specs.Including.{MayTellOf}
use Rattle.dp_program.specs.PlanQuestions.{OverPlan}
use Rattle.dp_program.specs.QueueTexts.{OnQueues, ReadsQueues}
use Rattle.dp_program.specs.declared.fault_places.Faulted.{Faulted}
use Rattle.dp_program.proofs.PlanQuestionLemmas.{over_plan_lacks}
use Rattle.dp_program.proofs.QueueLemmas.{queues_known, queues_refused}
use Rattle.dp_program.proofs.plan_questions.answer_after_queues.Goals as goal

-- the first file of the queues could not be read
pub returns-in-Err-clause-serves : goal.returns-in-Err-clause-serves
returns-in-Err-clause-serves g c =
    let files = g.F.ReadFiles.source_at c.args.files.now in
    let serves = g.Q.PlanQuestion.serves c.args.asking.now.question.now in
    let path = c.args.asking.now.paths.plan.now in
    let queues = c.args.queued.queues.now in
    let old = g.W.WriteTold.contents c.args.output.now in
    let plan = text_now c.args.queued.plan.now in
    subst (λ (faulted : Faulted). ReadsQueues files queues (λ (files : List ℕ → ByteSource). OverPlan serves files path old old plan) old old (Err faulted)) (sym c.from.ensures)
    (queues_refused files queues (λ (files : List ℕ → ByteSource). OverPlan serves files path old old plan) old
    (λ files. over_plan_lacks serves old (λ files. c.may_lack_memory.ensures files old) files path plan) _
    c.in-Err.ensures.path c.in-Err.ensures.read)

-- the queues have the text that was made
pub returns-in-Ok-Given-Some-clause-serves : goal.returns-in-Ok-Given-Some-clause-serves
returns-in-Ok-Given-Some-clause-serves g c =
    let files = g.F.ReadFiles.source_at c.args.files.now in
    let serves = g.Q.PlanQuestion.serves c.args.asking.now.question.now in
    let path = c.args.asking.now.paths.plan.now in
    let queues = c.args.queued.queues.now in
    let old = g.W.WriteTold.contents c.args.output.now in
    let new = g.W.WriteTold.contents c.answer_plan.new.output in
    let plan = text_now c.args.queued.plan.now in
    queues_known queues (MayTellOf files queues) _
    (λ read. OnQueues files queues (λ (files : List ℕ → ByteSource). OverPlan serves files path old new plan) old new read c.answer_plan.result)
    (rw (c.in-Ok-Given-Some.field-0-is, c.in-Ok-Given-Some.field-0-0-is) at c.in-Ok-Given-Some.ensures.read)
    (subst (λ (text : List ℕ). OverPlan serves (with_text files queues text) path old new plan c.answer_plan.result) c.deref.ensures.value c.answer_plan.ensures.serves)
