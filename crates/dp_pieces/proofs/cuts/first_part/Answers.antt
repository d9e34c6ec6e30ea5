use Rattle.std.proofs.Common.{◌≡◌, inl, inr, ◌⊎◌, [], ◌∷◌, sym, ap, ◌∙◌, subst, arith}
use Rattle.std.proofs.lemmas.List.{length-map}
use Rattle.dp_pieces.specs.Arguments.{split_pieces}
use Rattle.dp_pieces.specs.declared.cuts.Cutting.{Cutting}
use Rattle.dp_pieces.specs.declared.cuts.Cutting.TheVariants.{Nowhere, Unsure}
use Rattle.dp_pieces.specs.Shown.{shown_piece, shown_all}
use Rattle.dp_pieces.specs.ShownCuts.{shown_cutting}
use Rattle.dp_pieces.proofs.RuleLemmas.{IsSplit, split-comma}
use Rattle.dp_pieces.proofs.cuts.first_part.Goals as goal

pub returns-in-At-clause-parts : goal.returns-in-At-clause-parts
returns-in-At-clause-parts c =
    (subst (IsSplit 0 (shown_all c.args.pieces.now)) (sym (c.in-At.ensures {u = tt})) (split-comma 0 (shown_all c.args.pieces.now))).0

pub returns-in-At-clause-shorter : goal.returns-in-At-clause-shorter
returns-in-At-clause-shorter c =
    let less = (subst (IsSplit 0 (shown_all c.args.pieces.now)) (sym (c.in-At.ensures {u = tt})) (split-comma 0 (shown_all c.args.pieces.now))).1 in
    omega (arith, less, length-map c.in-At.rest.now shown_piece, length-map c.args.pieces.now shown_piece)

pub returns-in-Nowhere : goal.returns-in-Nowhere
returns-in-Nowhere c = record { parts = by c.in-Nowhere.is; shorter = tt }
  where
    split : (cutting : Cutting) → c.cut_by.result ≡ cutting → IsSplit 0 (shown_all c.args.pieces.now) (shown_cutting cutting)
    split cutting is = subst (IsSplit 0 (shown_all c.args.pieces.now)) (sym (c.cut_by.ensures) ∙ ap shown_cutting is) (split-comma 0 (shown_all c.args.pieces.now))

    by : (c.cut_by.result ≡ Nowhere) ⊎ (c.cut_by.result ≡ Unsure) → split_pieces 0 (shown_all c.args.pieces.now) ≡ shown_all c.args.pieces.now ∷ []
    by (inl is) = split Nowhere is
    by (inr is) = absurd (split Unsure is)
