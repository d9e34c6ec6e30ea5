use Rattle.std.proofs.Common.{◌||◌, ap, ◌∙◌}
use Rattle.dp_pieces.proofs.BlankLemmas.{none-has}
use Rattle.dp_pieces.specs.Pieces.{pieces_set}
use Rattle.dp_pieces.specs.Sets.{set_by}
use Rattle.dp_pieces.specs.Shown.{shown_all}
use Rattle.dp_closed.proofs.sets.set_of.Goals as goal

pub returns : goal.returns
returns c = λ i b.
    (c.add_pieces.ensures b ∙ (ap (λ has. set_by has b || pieces_set (shown_all c.args.pieces.now) b) c.none-set.ensures
    ∙ ap (λ t. t || pieces_set (shown_all c.args.pieces.now) b) (none-has 4 b))) i
