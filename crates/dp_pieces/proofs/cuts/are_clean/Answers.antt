use Rattle.std.proofs.Common.{◌≡◌, ◌≤◌, ◌+◌, suc, ◌&&◌, true, drop, sym, ap, ◌∙◌, subst, arith}
use Rattle.dp_pieces.specs.Arguments.{are_clean}
use Rattle.dp_pieces.specs.Shown.{shown_piece, shown_all}
use Rattle.dp_pieces.specs.steps.Stands.{is_clean_piece, level_after}
use Rattle.dp_pieces.proofs.RuleLemmas.{clean-at, from-end, level-bound}
use Rattle.dp_pieces.proofs.cuts.are_clean.Goals as goal

pub returns-then-not-is_clean : goal.returns-then-not-is_clean
returns-then-not-is_clean c =
    ap (λ b. b && are_clean (level_after c.loop-piece.level (shown_piece c.piece-item.result)) (drop (suc c.loop-piece.piece-index) (shown_all c.args.pieces.now)))
    (c.if-not-is_clean.ensures {u = tt})
    ∙ (sym (clean-at c.loop-piece.level c.loop-piece.piece-index c.args.pieces.now c.piece-item.result c.loop-piece-test.true c.piece-item.is)
    ∙ c.loop-piece.invariant.clean)

pub loop-piece-preserved : goal.loop-piece-preserved
loop-piece-preserved c =
    let next : suc c.loop-piece.piece-index ≡ c.loop-piece.piece-index + 1 = omega arith in
    let kept : is_clean_piece c.loop-piece.level (shown_piece c.piece-item.result) ≡ true = sym c.is_clean.ensures ∙ c.if-not-is_clean.false in
    record {
      bound = subst (λ n. n ≤ c.loop-piece.piece-index + 1) (sym c.level_after-level.ensures)
          (level-bound c.loop-piece.level c.loop-piece.piece-index (shown_piece c.piece-item.result) c.loop-piece.invariant.bound);
      clean = subst (λ n. are_clean c.level_after-level.result (drop n (shown_all c.args.pieces.now)) ≡ are_clean 0 (shown_all c.args.pieces.now)) next
          (ap (λ l. are_clean l (drop (suc c.loop-piece.piece-index) (shown_all c.args.pieces.now))) c.level_after-level.ensures
          ∙ (ap (λ b. b && are_clean (level_after c.loop-piece.level (shown_piece c.piece-item.result)) (drop (suc c.loop-piece.piece-index) (shown_all c.args.pieces.now))) (sym kept)
          ∙ (sym (clean-at c.loop-piece.level c.loop-piece.piece-index c.args.pieces.now c.piece-item.result c.loop-piece-test.true c.piece-item.is)
          ∙ c.loop-piece.invariant.clean)));
    }

pub returns : goal.returns
returns c =
    ap (are_clean c.loop-piece.level) (sym (from-end c.loop-piece.piece-index c.args.pieces.now (omega (arith, c.loop-piece-test.false)))) ∙ c.loop-piece.invariant.clean
