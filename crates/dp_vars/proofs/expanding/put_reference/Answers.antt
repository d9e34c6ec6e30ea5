use Rattle.std.proofs.Common.{ap, ◌∙◌, drop, ◌+◌}
use Rattle.dp_vars.specs.Sights.{sight_of}
use Rattle.dp_vars.proofs.ExpandingLemmas.{put-braces, put-unknown}
use Rattle.dp_vars.proofs.expanding.put_reference.Goals as goal

pub returns-clause-value : goal.returns-clause-value
returns-clause-value g c =
    put-braces g.F.Functions.table (sight_of g.C.Counts.count c.args.scope.now) c.args.start c.args.bytes.now.items c.truncate.new.self.items
    c.push_value.new.out.items _ c.split_at.result.1.now
    c.in_ok-push_value.ensures.ok c.truncate.ensures.items
    (c.in_ok-reference.ensures.value c.in_ok-push_value.ensures.small)
    (c.split_at.ensures.back ∙ ap (drop (c.args.start + 2)) c.deref.ensures.value)

pub returns-clause-unknown : goal.returns-clause-unknown
returns-clause-unknown g c =
    put-unknown g.F.Functions.table (sight_of g.C.Counts.count c.args.scope.now) c.args.start c.args.bytes.now.items
    c.args.noted.now.items c.note_body.new.noted.items c.split_at.result.1.now c.in_ok-reference.reference.called.is_known
    c.in_ok-note_body.ensures c.in_ok-reference.ensures.known
    (c.split_at.ensures.back ∙ ap (drop (c.args.start + 2)) c.deref.ensures.value)
