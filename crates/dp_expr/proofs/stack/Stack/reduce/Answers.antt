use Rattle.std.proofs.Common.{sym, ap, ◌∙◌}
use Rattle.dp_expr.specs.steps.Texts.{value_seen}
use Rattle.dp_expr.specs.Walk.{reduction}
use Rattle.dp_expr.specs.steps.Exact.{values_by}
use Rattle.dp_expr.specs.steps.Frames.{frame_seen, frames_seen}
use Rattle.dp_expr.proofs.FramesLemmas.{reduction-top, reduction-settled}
use Rattle.dp_expr.proofs.stack.Stack.reduce.Goals as goal

pub loop-frame-preserved : goal.loop-frame-preserved
loop-frame-preserved c =
    let before = frames_seen c.loop-frame.self.frames.items in
    let after = frames_seen c.pop_due.new.self.frames.items in
    ap (reduction (values_by c.args.division) c.args.level after) c.apply-value.ensures
    ∙ sym (reduction-top (values_by c.args.division) c.args.level before after (frame_seen c.in-Some.frame) (value_seen c.loop-frame.value) c.in-Some.ensures.some (sym c.in-Some.ensures.due))
    ∙ c.loop-frame.invariant

pub returns : goal.returns
returns c =
    let before = frames_seen c.loop-frame.self.frames.items in
    sym c.loop-frame.invariant
    ∙ reduction-settled (values_by c.args.division) c.args.level before (value_seen c.loop-frame.value) (sym c.in_default.ensures.due)
    ∙ ap (λ l. record { frames = l; value = value_seen c.loop-frame.value }) (sym c.in_default.ensures.none)
