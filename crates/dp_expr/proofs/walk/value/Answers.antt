use Rattle.std.proofs.Common.{None, unwrap_or, sym, ap, ◌∙◌}
use Rattle.dp_expr.specs.Tokens.{tokens_of}
use Rattle.dp_expr.specs.Walk.{walk}
use Rattle.dp_expr.specs.steps.Exact.{values_by}
use Rattle.dp_expr.specs.steps.Frames.{frames_seen}
use Rattle.dp_expr.specs.steps.Places.{IsOver, place_seen}
use Rattle.dp_expr.proofs.walk.value.Goals as goal

pub loop-token-preserved : goal.loop-token-preserved
unfolding walk
loop-token-preserved c =
    let here = place_seen c.loop-token.place (frames_seen c.loop-token.stack.frames.items) in
    let after = tokens_of c.in-Some.after.now in
    ap (λ s. walk (values_by c.args.division) s after) c.in_ok-place.ensures
    ∙ sym (ap (walk (values_by c.args.division) here) c.in-Some.ensures.tokens)
    ∙ c.loop-token.invariant

pub returns : goal.returns
unfolding IsOver
returns c =
    let frames = frames_seen c.loop-token.stack.frames.items in
    c.finish.ensures
    ∙ ap (λ o. unwrap_or o None) (sym (c.in_default.ensures (values_by c.args.division) frames) ∙ c.loop-token.invariant)
