use Rattle.std.proofs.Common.{◌++◌, List, ℕ, map, ap, ◌∙◌}
use Rattle.dp_audit.specs.declared.finding.Finding.TheVariants.{Hidden}
use Rattle.dp_audit.proofs.HidingLemmas.{hidden_as_noted}
use Rattle.dp_audit.proofs.hidden_entries.push_hidden.Goals as goal

pub returns : goal.returns
returns c plan entry are there =
    c.in_ok-push_each.ensures
    ∙ ap (λ (contexts : List ℕ). c.args.findings.now.items ++ map (Hidden c.args.id) contexts)
    (c.get.ensures ∙ hidden_as_noted plan c.args.hidings.now c.args.id entry are there)
