use Rattle.std.proofs.Common.{List, subst}
use Rattle.dp_closed.proofs.ReachLemmas.{fits-at}
use Rattle.dp_pieces.specs.Pieces.{Fits}
use Rattle.dp_pieces.specs.Shown.{shown_all}
use Rattle.dp_pieces.specs.declared.piece.Piece.{Piece}
use Rattle.dp_closed.proofs.reach.has_shape.Goals as goal

pub returns-then-is_within : goal.returns-then-is_within
returns-then-is_within c = λ yes text fits.
    fits-at c.args.shapes.now c.loop-shape.shape-index c.shape-item.result text c.loop-shape-test.true c.shape-item.is
    (subst (λ (ps : List Piece). Fits (shown_all ps) text) c.deref.ensures.value (c.if-is_within.ensures {u = tt} yes text fits))
