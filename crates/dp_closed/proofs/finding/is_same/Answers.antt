use Rattle.std.proofs.Common.{sym, subst, ◌∙◌}
use Rattle.std.specs.Cmp.Lexicographic.{bytes_decides}
use Rattle.dp_pattern.specs.Name.{IsName}
use Rattle.dp_closed.proofs.FoundLemmas.{spelled-alike}
use Rattle.dp_closed.proofs.finding.is_same.Goals as goal

pub returns-in-Pattern-Pattern : goal.returns-in-Pattern-Pattern
returns-in-Pattern-Pattern c = λ is.
    spelled-alike c.args.name.now c.args.other.now (subst IsName c.name.ensures c.parts.ensures.named) (subst IsName c.name-2.ensures c.parts-2.ensures.named)
    (sym c.spelling.ensures ∙ ((bytes_decides c.spelling.result.now c.spelling-in-Pattern-Pattern.result.now).0 (sym c.eq-in-Pattern-Pattern.ensures ∙ is)
    ∙ c.spelling-in-Pattern-Pattern.ensures))
