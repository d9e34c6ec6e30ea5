use Rattle.std.proofs.Common.{subst}
use Rattle.std.proofs.lemmas.Bool.{not-false}
use Rattle.dp_pattern.specs.Matches.{FitsTail}
use Rattle.dp_pieces.specs.Sets.{set_by}
use Rattle.dp_pieces.proofs.TakesLemmas.{none-follow}
use Rattle.dp_pieces.proofs.shapes.matching.may_follow.Goals as goal

pub returns-in-Dot : goal.returns-in-Dot
returns-in-Dot c =
    λ is digits within long ending.
    none-follow (set_by c.args.set.now) digits (c.is_none.ensures (not-false c.is_none.result is)) within (subst (λ t. FitsTail t digits) c.in-Dot.is ending)
