use Rattle.dp_wide_duties.proofs.LeadingLemmas.{exchange-covers}
use Rattle.dp_wide_duties.proofs.laws.each_leading_place_is_covered.Goals as goal

pub returns : goal.returns
returns c = exchange-covers
