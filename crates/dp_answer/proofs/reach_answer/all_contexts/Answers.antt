use Rattle.std.proofs.Common.{option_map}
use Rattle.std.specs.Prelude.{filter}
use Rattle.dp_answer.specs.Reached.{ids_at}
use Rattle.dp_answer.proofs.ReachAnswerLemmas.{contexts-next}
use Rattle.dp_closed.specs.Answers.{answers_in}
use Rattle.dp_answer.proofs.reach_answer.all_contexts.Goals as goal

pub loop-number-preserved : goal.loop-number-preserved
loop-number-preserved c =
    contexts-next (λ number. filter (answers_in (option_map (λ marks. marks.now) c.args.answers)) (ids_at c.args.plan.now number))
    c.loop-number.contexts.items c.push.new.self.items c.in_ok-context.context c.loop-number.number
    c.loop-number.invariant c.in_ok-push.ensures.items c.in_ok-context.ensures
