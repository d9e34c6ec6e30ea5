use Rattle.std.proofs.Common.{ap, ◌∙◌}
use Rattle.dp_vars.specs.Unknown.{any_text}
use Rattle.dp_machine.specs.Unknown.{unknown_asked}
use Rattle.dp_machine.proofs.unknown.unknown_asked.Goals as goal

-- the table is asked what is unknown, given what the channel sees and the expanded arguments
pub returns : goal.returns
unfolding unknown_asked
returns g c =
    c.any_text.ensures
    ∙ ap any_text (c.in_ok-asked.ensures
    ∙ (λ i. g.T.KnownTable.knowledge.asks (c.scope_of-scope.ensures.sight i) (c.bytes.ensures i)
    ((c.deref.ensures.value ∙ c.in_ok-arguments.ensures) i)))
