use Rattle.std.proofs.Common.{subst, sym, ◌∙◌}
use Rattle.dp_audit.specs.steps.Hiding.{Grows, Notes, for_one}
use Rattle.dp_audit.proofs.HidingLemmas.{grows_one}
use Rattle.dp_audit.proofs.hidden_entries.Hidings.ask_entry.Goals as goal

pub returns-in_ok-push : goal.returns-in_ok-push
returns-in_ok-push c =
    subst (λ (new : Notes). Grows c.args.self.now new (for_one c.args.places.now.keys c.args.id c.args.entry.now c.args.from)) (sym c.in_ok-push.ensures)
    (grows_one c.args.places.now.keys c.args.id c.args.entry.now c.args.from c.args.self.now (sym c.in_ok-is_among.ensures ∙ c.if-branch.true))
