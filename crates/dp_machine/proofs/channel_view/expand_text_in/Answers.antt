use Rattle.std.proofs.Common.{ap, ◌∙◌}
use Rattle.dp_vars.specs.Unknown.{first_unknown}
use Rattle.dp_vars.specs.Values.{expansion_with}
use Rattle.dp_machine.specs.Seen.{arguments_seen}
use Rattle.dp_machine.specs.Unknown.{unknown_seen}
use Rattle.dp_machine.proofs.channel_view.expand_text_in.Goals as goal

-- the pieces are those of the text, and are expanded with what the channel sees
pub returns-clause-bytes : goal.returns-clause-bytes
unfolding arguments_seen
returns-clause-bytes g c =
    c.in_ok-expanded.ensures.bytes c.in_ok-pieces.ensures
    ∙ ap (λ sight. expansion_with g.F.Functions.table sight c.args.text.now) c.scope_of-scope.ensures.sight

pub returns-clause-unknown : goal.returns-clause-unknown
unfolding unknown_seen
returns-clause-unknown g c =
    c.in_ok-expanded.ensures.unknown c.in_ok-pieces.ensures
    ∙ ap (λ sight. first_unknown g.F.Functions.table sight c.args.text.now) c.scope_of-scope.ensures.sight
