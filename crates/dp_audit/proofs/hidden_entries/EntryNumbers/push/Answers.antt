use Rattle.std.proofs.Common.{length, sym, ap, ◌∙◌, arith}
use Rattle.dp_conf.specs.Changes.{changed_at}
use Rattle.dp_audit.specs.steps.Hiding.{with_number}
use Rattle.dp_conf.proofs.ChangesLemmas.{changed_at-set, changed_at-past}
use Rattle.dp_audit.proofs.hidden_entries.EntryNumbers.push.Goals as goal

pub returns-in_ok-push : goal.returns-in_ok-push
returns-in_ok-push c =
    changed_at-set (with_number c.args.number) c.args.entry c.self.inside.entries.items c.index_mut-numbers.result.now c.push.new.self
    (omega (arith, c.len.ensures, c.if-entry-len.true)) c.index_mut-numbers.ensures.value c.in_ok-push.ensures
    ∙ ap (changed_at (with_number c.args.number) c.args.entry) c.self.view_is

pub returns-else-entry-len : goal.returns-else-entry-len
returns-else-entry-len c =
    sym (changed_at-past (with_number c.args.number) c.args.entry c.args.self.now
    (omega (arith, c.len.ensures, c.if-entry-len.false, ap length c.self.view_is)))
