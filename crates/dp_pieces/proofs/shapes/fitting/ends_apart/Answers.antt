use Rattle.std.proofs.Common.{◌≡◌, List, [], ◌∷◌, ◌++◌, true, false, not, sym, ap, ◌∙◌, subst, eq-eqb}
use Rattle.std.proofs.lemmas.List.{map-append}
use Rattle.dp_pieces.specs.Pieces.{Fits, PieceOf}
use Rattle.dp_pieces.specs.Shown.{shown_piece, shown_all}
use Rattle.dp_pieces.proofs.EndLemmas.{fits-last, same-last}
use Rattle.dp_pieces.proofs.shapes.fitting.ends_apart.Goals as goal

pub returns-in-Known : goal.returns-in-Known
returns-in-Known c = λ apart fits.
    let text = c.args.text.now in
    let shape = ap shown_all c.in-Some.ensures.cases.0 ∙ (map-append shown_piece c.in-Some.field-0-1.now (c.in-Some.piece.now ∷ [])
    ∙ ap (λ piece. shown_all c.in-Some.field-0-1.now ++ shown_piece piece ∷ []) c.in-Known.is) in
    let at = fits-last (shown_all c.in-Some.field-0-1.now) c.in-Known.byte text (subst (λ (pieces : List PieceOf). Fits pieces text) shape fits) in
    let same : c.in-Known.byte ≡ c.in-Some-split_last.last.now =
    same-last at.0 c.in-Some-split_last.field-0-1.now c.in-Known.byte c.in-Some-split_last.last.now (sym at.1 ∙ c.in-Some-split_last.ensures.cases.0) in
    let no : true ≡ false = sym apart ∙ ap not (eq-eqb c.in-Known.byte c.in-Some-split_last.last.now same) in
    let bottom : ⊥ = cc in bottom
