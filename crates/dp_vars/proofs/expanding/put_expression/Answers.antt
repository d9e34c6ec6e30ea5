use Rattle.std.proofs.Common.{ap, ◌∙◌, drop, ◌+◌}
use Rattle.dp_vars.specs.Unknown.{earlier, unknown_expression}
use Rattle.dp_vars.specs.Values.{value_read}
use Rattle.dp_vars.proofs.ExpandingLemmas.{put-brackets, put-unknown_expression}
use Rattle.dp_vars.proofs.expanding.put_expression.Goals as goal

pub returns-clause-value : goal.returns-clause-value
returns-clause-value g c sight =
    put-brackets g.F.Functions.table sight c.args.start c.args.bytes.now.items c.truncate.new.self.items
    c.push_expression.new.out.items _ c.split_at.result.1.now
    c.in_ok-push_expression.ensures c.truncate.ensures.items
    (λ i. value_read (c.in_ok-reading.ensures i) (c.in_ok-value.ensures.exact i))
    (c.split_at.ensures.back ∙ ap (drop (c.args.start + 2)) c.deref.ensures.value)

pub returns-clause-unknown : goal.returns-clause-unknown
returns-clause-unknown g c sight =
    put-unknown_expression g.F.Functions.table sight c.args.start c.args.bytes.now.items c.args.noted.now.items
    c.note_expression.new.noted.items c.split_at.result.1.now
    (c.in_ok-note_expression.ensures
    ∙ ap (λ reading. earlier c.args.noted.now.items (unknown_expression reading c.split_at.result.1.now)) c.in_ok-reading.ensures)
    (c.split_at.ensures.back ∙ ap (drop (c.args.start + 2)) c.deref.ensures.value)
