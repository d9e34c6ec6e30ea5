use Rattle.std.proofs.Common.{sym, subst}
use Rattle.dp_pattern.specs.Matches.{FitsTail}
use Rattle.dp_pieces.specs.Sets.{set_by}
use Rattle.dp_pieces.proofs.TakesLemmas.{none-ends}
use Rattle.dp_pieces.proofs.shapes.matching.all_follow.Goals as goal

pub returns-in-End : goal.returns-in-End
returns-in-End c =
    λ is digits within long. subst (λ t. FitsTail t digits) (sym c.in-End.is) (none-ends (set_by c.args.set.now) digits (c.is_none.ensures is) within)
