use Rattle.std.proofs.Common.{ap, subst, ◌∙◌}
use Rattle.dp_lookup.specs.SearchOrder.{context_count}
use Rattle.dp_audit.specs.steps.Hiding.{Grows, Notes, all_hidden, no_notes}
use Rattle.dp_audit.proofs.HidingLemmas.{all_noted}
use Rattle.dp_audit.proofs.hidden_entries.Hidings.of.Goals as goal

pub returns : goal.returns
returns c =
    let plan = c.args.plan.now in
    all_noted plan c.ask_all.new.self
    (subst (λ (old : Notes). Grows old c.ask_all.new.self (all_hidden plan (context_count plan)))
    (c.in_ok-hidings.ensures ∙ ap no_notes c.contexts.ensures) c.in_ok-ask_all.ensures)
