use Rattle.std.proofs.Common.{◌++◌, ◌∙◌, List, ap}
use Rattle.dp_audit.specs.Loops.{loops_of_context}
use Rattle.dp_audit.specs.declared.loops.Loop.{Loop}
use Rattle.dp_audit.specs.steps.Marks.{is_marked}
use Rattle.dp_audit.proofs.FindingsLemmas.{contexts_more}
use Rattle.dp_audit.proofs.loops.list_loops.Goals as goal

pub loop-number-preserved : goal.loop-number-preserved
loop-number-preserved c =
    c.in_ok-push_of_context.ensures
    ∙ (ap (λ (before : List Loop). before ++ loops_of_context (is_marked c.args.firsts.now) c.args.plan.now c.loop-number.number) c.loop-number.invariant
    ∙ contexts_more (loops_of_context (is_marked c.args.firsts.now) c.args.plan.now) c.loop-number.number)
