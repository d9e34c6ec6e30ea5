use Rattle.std.proofs.Common.{◌≡◌, ◌||◌, ◌+◌, suc, drop, ◌∙◌, subst, arith}
use Rattle.dp_pieces.specs.Pieces.{pieces_set}
use Rattle.dp_pieces.specs.Sets.{set_by}
use Rattle.dp_pieces.specs.Shown.{shown_all}
use Rattle.dp_pieces.proofs.SoftLemmas.{bytes-next, bytes-over}
use Rattle.dp_pieces.proofs.piece.add_pieces.Goals as goal

pub loop-piece-preserved : goal.loop-piece-preserved
loop-piece-preserved c b =
    let next : suc c.loop-piece.piece-index ≡ c.loop-piece.piece-index + 1 = omega arith in
    subst (λ n. (set_by c.add_piece.new.set b || pieces_set (drop n (shown_all c.args.pieces.now)) b) ≡ (set_by c.args.set.now b || pieces_set (shown_all c.args.pieces.now) b)) next
    (bytes-next c.loop-piece.piece-index b (set_by c.loop-piece.set b) (set_by c.add_piece.new.set b) c.args.pieces.now c.piece-item.result c.loop-piece-test.true c.piece-item.is
    (c.add_piece.ensures b) ∙ c.loop-piece.invariant b)

pub returns : goal.returns
returns c b = bytes-over c.loop-piece.piece-index b (set_by c.loop-piece.set b) c.args.pieces.now c.loop-piece-test.false ∙ c.loop-piece.invariant b
