use Rattle.std.proofs.Common.{◌+◌, ◌-◌, ◌∷◌, List, ℕ, ap, length, drop, sym, take, ◌∙◌, arith}
use Rattle.std.specs.List.{slice_split}
use Rattle.std.proofs.lemmas.List.{take_all, length-drop}
use Rattle.dp_audit.specs.Pieces.{cuts}
use Rattle.dp_audit.proofs.PiecesLemmas.{cut_none, cut_some}
use Rattle.dp_audit.proofs.pieces.cut_first.Goals as goal

pub returns-in-None-clause-pieces : goal.returns-in-None-clause-pieces
returns-in-None-clause-pieces c = cut_none c.args.text.now (sym c.cut_place.ensures ∙ c.in-None.is)

pub returns-in-Some-clause-pieces : goal.returns-in-Some-clause-pieces
returns-in-Some-clause-pieces c =
    let text = c.args.text.now in
    let at = c.in-Some.at in
    let found = cut_some text at (sym c.cut_place.ensures ∙ c.in-Some.is) in
    found.1
    ∙ ap (λ (at : ℕ). take at text ∷ slice_split cuts (drop (at + 1) text)) found.0
    ∙ ap (λ (rest : List ℕ). take at text ∷ slice_split cuts rest) (sym (take_all (length text - (at + 1)) (drop (at + 1) text) (omega (arith, length-drop (at + 1) text))))
