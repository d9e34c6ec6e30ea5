use Rattle.std.proofs.Common.{subst}
use Rattle.dp_pattern.specs.Name.{IsName}
use Rattle.dp_pattern.proofs.SpellingLemmas.{spelled_again}
use Rattle.dp_pattern.proofs.name.Name.text.Goals as goal

pub returns-in-Short-clause-again : goal.returns-in-Short-clause-again
returns-in-Short-clause-again c = spelled_again c.args.self.now (subst IsName c.self.view_is c.self.invariant)

pub returns-in-Plain-clause-again : goal.returns-in-Plain-clause-again
returns-in-Plain-clause-again c = spelled_again c.args.self.now (subst IsName c.self.view_is c.self.invariant)

pub returns-in-Pattern-clause-again : goal.returns-in-Pattern-clause-again
returns-in-Pattern-clause-again c = spelled_again c.args.self.now (subst IsName c.self.view_is c.self.invariant)
