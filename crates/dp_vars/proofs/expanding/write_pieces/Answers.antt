use Rattle.std.proofs.Common.{sym, subst}
use Rattle.dp_vars.specs.Sights.{sight_of}
use Rattle.dp_vars.proofs.PiecesLemmas.{IsWriting, writing-first, writing-next}
use Rattle.dp_vars.proofs.expanding.write_pieces.Goals as goal

pub loop-piece-init : goal.loop-piece-init
loop-piece-init g c =
    subst (λ w. IsWriting g.F.Functions.table (sight_of g.C.Counts.count c.args.scope.now) c.args.text.now w c.args.pieces.now c.args.pieces.now)
    (sym c.in_ok-expanding.ensures) (writing-first g.F.Functions.table (sight_of g.C.Counts.count c.args.scope.now) c.args.text.now c.args.pieces.now)

pub loop-piece-preserved : goal.loop-piece-preserved
loop-piece-preserved g c =
    writing-next g.F.Functions.table (sight_of g.C.Counts.count c.args.scope.now) c.args.text.now c.loop-piece.expanding c.write.new.self c.in-Some.piece.now
    c.loop-piece.left.now c.in-Some.after.now c.args.pieces.now c.in-Some.ensures.cases.0 c.in_ok-write.ensures c.loop-piece.invariant
