use Rattle.std.proofs.Common.{ap, ◌∙◌, arith}
use Rattle.dp_expr.specs.Walk.{nesting}
use Rattle.dp_expr.specs.steps.Frames.{frames_seen}
use Rattle.dp_expr.proofs.FramesLemmas.{frames_seen-push, nesting-push}
use Rattle.dp_expr.proofs.stack.Stack.push.Goals as goal

pub invariant_of-self-2 : goal.invariant_of-self-2
invariant_of-self-2 c =
    let items = ap (λ l. nesting (frames_seen l)) c.in_ok-push.ensures.ok in
    let operator_step = nesting-push c.args.self.now.frames.items c.args.frame c.depth.result c.depth.ensures in
    let deeper = c.depth.ensures c.args.self.now.depth in
    record {
      counted = omega (arith, items ∙ operator_step, c.args.self.now.counted);
      shallow = omega (arith, deeper, c.requires);
    }

pub returns : goal.returns
returns c =
    ap frames_seen c.in_ok-push.ensures.ok ∙ frames_seen-push c.args.self.now.frames.items c.args.frame
