use Rattle.std.proofs.Common.{sym, ap, ◌∙◌, arith}
use Rattle.dp_expr.specs.Walk.{nesting}
use Rattle.dp_expr.specs.steps.Frames.{frames_seen}
use Rattle.dp_expr.proofs.FramesLemmas.{frames_seen-none, frames_seen-push, nesting-push}
use Rattle.dp_expr.proofs.stack.Stack.pop.Goals as goal

pub overflow_sub-self : goal.overflow_sub-self
overflow_sub-self c =
    let items = ap (λ l. nesting (frames_seen l)) c.in_ok-frame.ensures.items in
    let operator_step = nesting-push c.pop.new.self.items c.in_ok-frame.frame c.depth.result c.depth.ensures in
    omega (arith, items ∙ operator_step, c.args.self.now.counted)

pub invariant_of-self-2 : goal.invariant_of-self-2
invariant_of-self-2 c =
    let items = ap (λ l. nesting (frames_seen l)) c.in_ok-frame.ensures.items in
    let operator_step = nesting-push c.pop.new.self.items c.in_ok-frame.frame c.depth.result c.depth.ensures in
    record {
      counted = omega (arith, items ∙ operator_step, c.args.self.now.counted);
      shallow = omega (arith, c.args.self.now.shallow);
    }

pub returns-clause-some : goal.returns-clause-some
returns-clause-some c =
    ap frames_seen c.in_ok-frame.ensures.items ∙ frames_seen-push c.pop.new.self.items c.in_ok-frame.frame

pub returns-in_err-frame-clause-none : goal.returns-in_err-frame-clause-none
returns-in_err-frame-clause-none c =
    let empty = frames_seen-none c.args.self.now.frames.items (sym c.in_err-frame.ensures.value) in
    rw c.from_residual.ensures empty
