use Rattle.std.proofs.Common.{length, sym, ap, ◌∙◌, arith}
use Rattle.dp_conf.specs.Changes.{changed_at}
use Rattle.dp_audit.specs.steps.Hiding.{with_number}
use Rattle.dp_conf.proofs.ChangesLemmas.{changed_at-set, changed_at-past}
use Rattle.dp_audit.proofs.hidden_entries.Hidings.push.Goals as goal

pub returns-in_ok-push : goal.returns-in_ok-push
returns-in_ok-push c =
    let change = changed_at (with_number c.args.number) c.args.id.entry in
    changed_at-set change c.args.id.context c.self.inside.notes.items c.index_mut-noted.result.now c.push.new.self
    (omega (arith, c.len.ensures, c.if-id-len.true)) c.index_mut-noted.ensures.value c.in_ok-push.ensures
    ∙ ap (changed_at change c.args.id.context) c.self.view_is

pub returns-else-id-len : goal.returns-else-id-len
returns-else-id-len c =
    sym (changed_at-past (changed_at (with_number c.args.number) c.args.id.entry) c.args.id.context c.args.self.now
    (omega (arith, c.len.ensures, c.if-id-len.false, ap length c.self.view_is)))
