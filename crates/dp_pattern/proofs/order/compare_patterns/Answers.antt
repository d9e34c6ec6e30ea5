use Rattle.std.proofs.Common.{sym, ◌∙◌, rules}
use Rattle.dp_pattern.proofs.OrderLemmas.{pattern_cmp-left_ends, pattern_cmp-right_ends}
use Rattle.dp_pattern.proofs.order.compare_patterns.Goals as goal

pub returns-in-Less : goal.returns-in-Less
returns-in-Less c =
    c.compare_tail_with_class.ensures.left
    ∙ sym (pattern_cmp-left_ends c.args.left.now c.args.left_tail c.args.right.now c.args.right_tail c.loop-i.i (search rules) (search rules))
    ∙ c.loop-i.invariant

pub returns-in-Greater : goal.returns-in-Greater
returns-in-Greater c =
    c.reverse.ensures ∙ c.compare_tail_with_class-in-Greater.ensures.right
    ∙ sym (pattern_cmp-right_ends c.args.left.now c.args.left_tail c.args.right.now c.args.right_tail c.loop-i.i (search rules) (search rules))
    ∙ c.loop-i.invariant
