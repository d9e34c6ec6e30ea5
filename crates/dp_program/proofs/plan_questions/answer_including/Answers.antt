use Rattle.std.proofs.Common.{Err, sym, subst}
use Rattle.std.specs.Option.{option_map}
use Rattle.dp_program.specs.Dialplans.{OnDialplan, ReadsDialplan}
use Rattle.dp_program.specs.Including.{MayTellOf}
use Rattle.dp_program.specs.PlanQuestions.{WithQueues}
use Rattle.dp_program.specs.declared.fault_places.Faulted.{Faulted}
use Rattle.dp_program.proofs.DialplanLemmas.{dialplan_known, dialplan_refused}
use Rattle.dp_program.proofs.PlanQuestionLemmas.{with_queues_lack}
use Rattle.dp_program.proofs.plan_questions.answer_including.Goals as goal

-- the question is answered from the generated text
pub returns-in-Ok-Loads-clause-serves : goal.returns-in-Ok-Loads-clause-serves
returns-in-Ok-Loads-clause-serves g c =
    let files = g.F.ReadFiles.source_at c.args.files.now in
    let serves = g.Q.PlanQuestion.serves c.args.asking.now.question.now in
    let path = c.args.asking.now.paths.plan.now in
    let queues = option_map (λ path. path.now) c.args.asking.now.paths.queues in
    let old = g.W.WriteTold.contents c.args.output.now in
    let new = g.W.WriteTold.contents c.answer_with_queues.new.output in
    dialplan_known c.args.asking.now.purpose (option_map (λ word. word.now) c.args.asking.now.clock) path (MayTellOf files path) _
    (λ read. OnDialplan (λ plan. WithQueues serves files path old new plan queues) path old new read c.answer_with_queues.result)
    (rw c.in-Ok-Loads.field-0-is at c.in-Ok-Loads.ensures.read) c.answer_with_queues.ensures.serves

-- the first file could not be read
pub returns-in-Err-clause-serves : goal.returns-in-Err-clause-serves
returns-in-Err-clause-serves g c =
    let files = g.F.ReadFiles.source_at c.args.files.now in
    let serves = g.Q.PlanQuestion.serves c.args.asking.now.question.now in
    let path = c.args.asking.now.paths.plan.now in
    let queues = option_map (λ path. path.now) c.args.asking.now.paths.queues in
    let clock = option_map (λ word. word.now) c.args.asking.now.clock in
    let old = g.W.WriteTold.contents c.args.output.now in
    subst (λ (faulted : Faulted). ReadsDialplan c.args.asking.now.purpose clock files path (λ plan. WithQueues serves files path old old plan queues) old old (Err faulted)) (sym c.from.ensures)
    (dialplan_refused (λ plan. WithQueues serves files path old old plan queues) path old
    (λ plan. with_queues_lack serves old (λ files. c.may_lack_memory.ensures files old) files path plan queues)
    c.args.asking.now.purpose clock files _ c.in-Err.ensures.path c.in-Err.ensures.read)
