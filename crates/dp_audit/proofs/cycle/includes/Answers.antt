use Rattle.std.proofs.Common.{◌∙◌, List, ℕ, map, ap}
use Rattle.dp_lookup.specs.SearchOrder.{has, link_of}
use Rattle.dp_audit.proofs.CycleLemmas.{any_link}
use Rattle.dp_audit.proofs.cycle.includes.Goals as goal

pub returns : goal.returns
returns c =
    c.has_link.ensures
    ∙ (any_link c.args.plan.now c.args.number c.includes_at.result.now
    ∙ ap (λ (names : List (List ℕ)). has (map (link_of c.args.plan.now) names) c.args.number) c.includes_at.ensures)
