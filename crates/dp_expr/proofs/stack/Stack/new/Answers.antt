use Rattle.std.proofs.Common.{sym, ap, ◌∙◌, arith}
use Rattle.dp_expr.specs.Walk.{nesting}
use Rattle.dp_expr.specs.steps.Frames.{frames_seen}
use Rattle.dp_expr.proofs.FramesLemmas.{frames_seen-nil, nesting-nil}
use Rattle.dp_expr.proofs.stack.Stack.new.Goals as goal

pub invariant_of-result : goal.invariant_of-result
invariant_of-result c =
    record {
      counted = sym (ap (λ l. nesting (frames_seen l)) c.new.ensures.items ∙ nesting-nil);
      shallow = omega arith;
    }

pub returns : goal.returns
returns c = ap frames_seen c.new.ensures.items ∙ frames_seen-nil
