use Rattle.std.proofs.Common.{subst, sym, ◌∙◌}
use Rattle.dp_vars.specs.Values.{expansion_with}
use Rattle.dp_machine.specs.Seen.{arguments_seen}
use Rattle.dp_machine.specs.steps.Templates.{AreTemplate}
use Rattle.dp_machine.proofs.channel_view.expand_arguments.Goals as goal

-- the pieces are those of the arguments, and are expanded with what the channel sees
pub returns-in_ok-bytes-in-Read : goal.returns-in_ok-bytes-in-Read
unfolding arguments_seen
returns-in_ok-bytes-in-Read g c =
    c.in_ok-bytes-in-Read.ensures
    (subst (AreTemplate c.bytes-arguments.result.now) c.in-Read.is
    (subst (λ text. AreTemplate text c.args.prepared.template.now.arguments) (sym c.bytes-arguments.ensures.value) c.requires))
    ∙ (λ i. expansion_with g.F.Functions.table (c.scope_of-scope.ensures.sight i) (c.bytes-arguments.ensures.value i))
