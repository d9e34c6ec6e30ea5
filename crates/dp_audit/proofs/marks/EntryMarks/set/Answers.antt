use Rattle.std.proofs.Common.{Bool, true, length, sym, ap, ◌∙◌, arith}
use Rattle.dp_conf.specs.Changes.{changed_at}
use Rattle.dp_conf.proofs.ChangesLemmas.{changed_at-set, changed_at-past}
use Rattle.dp_audit.proofs.marks.EntryMarks.set.Goals as goal

pub returns-then-id-len : goal.returns-then-id-len
returns-then-id-len c =
    let change = changed_at (λ (mark : Bool). true) c.args.id.entry in
    changed_at-set change c.args.id.context c.self.inside.contexts.items c.index_mut-marks.result.now c.set.new.self
    (omega (arith, c.len.ensures, c.if-id-len.true)) c.index_mut-marks.ensures.value c.set.ensures
    ∙ ap (changed_at change c.args.id.context) c.self.view_is

pub returns-else-id-len : goal.returns-else-id-len
returns-else-id-len c =
    sym (changed_at-past (changed_at (λ (mark : Bool). true) c.args.id.entry) c.args.id.context c.args.self.now
    (omega (arith, c.len.ensures, c.if-id-len.false, ap length c.self.view_is)))
