use Rattle.dp_reach.proofs.FindingLemmas.{in-matched, may-find}
use Rattle.dp_reach.proofs.laws.finding.Goals as goal

pub returns-clause-found : goal.returns-clause-found
returns-clause-found c = may-find

pub returns-clause-matched : goal.returns-clause-matched
returns-clause-matched c = in-matched
