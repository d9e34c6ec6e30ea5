use Rattle.std.proofs.Common.{ap, ◌∙◌}
use Rattle.dp_vars.specs.Unknown.{first_unknown}
use Rattle.dp_vars.specs.Values.{expansion_with}
use Rattle.dp_machine.specs.Seen.{global_value}
use Rattle.dp_machine.proofs.shared_state.expand_by_globals.Goals as goal

-- the pieces are those of the text, and are expanded with these globals
pub returns-clause-bytes : goal.returns-clause-bytes
unfolding global_value
returns-clause-bytes g c =
    c.in_ok-expanded.ensures.bytes c.in_ok-pieces.ensures
    ∙ ap (λ sight. expansion_with g.F.Functions.table sight c.args.text.now) c.scope_of_globals-scope.ensures

pub returns-clause-unknown : goal.returns-clause-unknown
returns-clause-unknown g c =
    c.in_ok-expanded.ensures.unknown c.in_ok-pieces.ensures
    ∙ ap (λ sight. first_unknown g.F.Functions.table sight c.args.text.now) c.scope_of_globals-scope.ensures
