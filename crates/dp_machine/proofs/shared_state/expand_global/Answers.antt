use Rattle.std.proofs.Common.{ap, ◌∙◌}
use Rattle.dp_vars.specs.Values.{expansion_with}
use Rattle.dp_machine.specs.Seen.{global_value}
use Rattle.dp_machine.proofs.shared_state.expand_global.Goals as goal

pub returns : goal.returns
unfolding global_value
returns g c = c.in_ok-bytes.ensures ∙ ap (λ sight. expansion_with g.F.Functions.table sight c.args.value.now) c.scope_of_globals-scope.ensures
