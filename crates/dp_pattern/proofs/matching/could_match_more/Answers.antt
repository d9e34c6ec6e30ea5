use Rattle.std.proofs.Common.{◌∙◌, ap₂}
use Rattle.std.proofs.lemmas.Bool.Decides.{Decides-at}
use Rattle.dp_pattern.specs.Walk.{goes_on}
use Rattle.dp_pattern.proofs.GoesOnLemmas.{going_on}
use Rattle.dp_pattern.proofs.MeaningLemmas.{name_means}
use Rattle.dp_pattern.proofs.matching.could_match_more.Goals as goal

pub returns-clause-more : goal.returns-clause-more
returns-clause-more c =
    let walk = c.walk_name-tail.ensures in
    Decides-at _ _ (c.goes_on.ensures ∙ ap₂ goes_on walk.tail walk.walk) (going_on c.args.name.now c.args.text.now (name_means c.args.name.now walk.named))
