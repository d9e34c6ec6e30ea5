-- A text in which no group opens is its own expansion.
use Rattle.std.proofs.Common.{sym, ◌∙◌}
use Rattle.dp_vars.specs.Values.{standard_functions}
use Rattle.dp_vars.proofs.OpeningsLemmas.{expansion-same, unknown-none}
use Rattle.dp_vars.proofs.opening.has_opening.Goals as goal

pub returns-clause-same : goal.returns-clause-same
returns-clause-same c none sight = expansion-same standard_functions sight c.args.text.now (sym c.holds_opening.ensures ∙ none)

pub returns-clause-any : goal.returns-clause-any
returns-clause-any c none functions sight = expansion-same functions sight c.args.text.now (sym c.holds_opening.ensures ∙ none)

pub returns-clause-known : goal.returns-clause-known
returns-clause-known c none functions sight = unknown-none functions sight c.args.text.now (sym c.holds_opening.ensures ∙ none)
