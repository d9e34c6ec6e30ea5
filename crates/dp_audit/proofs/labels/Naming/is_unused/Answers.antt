use Rattle.std.proofs.Common.{◌≡◌, IfOk, subst, sym}
use Rattle.dp_audit.specs.Labels.{is_unnamed, is_unused, unused_by}
use Rattle.dp_audit.proofs.labels.Naming.is_unused.Goals as goal

pub returns-in-Some : goal.returns-in-Some
unfolding is_unused
returns-in-Some c known plan naming =
    subst (λ label. IfOk c.lacks.result (λ unused. unused ≡ unused_by known plan label)) (sym c.in-Some.is)
    (subst (λ label. IfOk c.lacks.result (λ unused. unused ≡ is_unnamed known plan label)) c.text.ensures (c.lacks.ensures known plan naming))
