use Rattle.std.proofs.Common.{◌∙◌, ap₂}
use Rattle.std.proofs.lemmas.Bool.Decides.{Decides-at}
use Rattle.dp_pattern.specs.Walk.{is_match}
use Rattle.dp_pattern.proofs.WalkLemmas.{walk_decides_match}
use Rattle.dp_pattern.proofs.matching.matches.Goals as goal

pub returns : goal.returns
returns c =
    let walk = c.walk_name-tail.ensures in
    Decides-at _ _ (c.is_match.ensures ∙ ap₂ is_match walk.tail walk.walk) (walk_decides_match c.args.name.now c.args.text.now)
