use Rattle.dp_audit.proofs.CandidatesOrder.{ranked_is_ranking}
use Rattle.dp_audit.proofs.candidate.ranked_is_the_ranking.Goals as goal

pub returns : goal.returns
returns c = ranked_is_ranking
