use Rattle.std.proofs.Common.{ap, arith, length}
use Rattle.dp_pieces.specs.Shown.{shown_piece, shown_all}
use Rattle.dp_pieces.proofs.AlwaysFitsLemmas.{nothing-step}
use Rattle.dp_pieces.proofs.shapes.length.skip_nothing.Goals as goal

pub loop-piece-preserved : goal.loop-piece-preserved
loop-piece-preserved c = record {
  same = nothing-step (shown_piece c.in-Some.piece.now) (shown_all c.in-Some.after.now) (shown_all c.loop-piece.left.now) _ (ap shown_all c.in-Some.ensures.cases.0)
      (c.is_nothing.ensures c.if-not-is_nothing.false) c.loop-piece.invariant.same;
  shorter = omega (arith, ap length c.in-Some.ensures.cases.0);
}
