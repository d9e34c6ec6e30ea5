use Rattle.std.proofs.Common.{Bool, true, length, refl, sym, ap, ◌∙◌, arith}
use Rattle.dp_conf.specs.Changes.{changed_at}
use Rattle.dp_conf.proofs.ChangesLemmas.{changed_at-set, changed_at-past}
use Rattle.dp_audit.proofs.marks.ContextMarks.set.Goals as goal

pub returns-then-entry-len : goal.returns-then-entry-len
returns-then-entry-len c =
    let change = λ (mark : Bool). true in
    changed_at-set change c.args.entry c.self.inside.list.items c.index_mut.result.now true
    (omega (arith, c.len.ensures, c.if-entry-len.true)) c.index_mut.ensures.value refl
    ∙ ap (changed_at change c.args.entry) c.self.view_is

pub returns-else-entry-len : goal.returns-else-entry-len
returns-else-entry-len c =
    sym (changed_at-past (λ (mark : Bool). true) c.args.entry c.args.self.now
    (omega (arith, c.len.ensures, c.if-entry-len.false, ap length c.self.view_is)))
