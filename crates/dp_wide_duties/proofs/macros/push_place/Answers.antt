use Rattle.std.proofs.Common.{◌≡◌, ◌++◌, ◌∷◌, [], OnOk, codes, subst, ap, ◌∙◌, append_assoc}
use Rattle.dp_closed.specs.Shown.{shown_duties}
use Rattle.dp_pieces.specs.Pieces.{pieces_set}
use Rattle.dp_pieces.specs.Shown.{shown_all}
use Rattle.dp_reach.specs.Bounds.{Holds}
use Rattle.dp_wide_duties.proofs.macros.push_place.Goals as goal

pub returns : goal.returns
returns c =
    subst (λ ds. OnOk c.push_held-2.result (shown_duties c.push_held-2.new.duties.items ≡ ds))
    ((λ i. (c.in_ok-push_held.ensures ∙ ap (λ ps. shown_duties c.args.duties.now.items ++ Holds (codes "MACRO_EXTEN") (pieces_set (shown_all ps)) ∷ []) c.deref.ensures.value) i
    ++ Holds (codes "MACRO_CONTEXT") (pieces_set (shown_all (c.deref-2.ensures.value i))) ∷ [])
    ∙ append_assoc (shown_duties c.args.duties.now.items) (Holds (codes "MACRO_EXTEN") (pieces_set (shown_all c.args.area.now.exten.items)) ∷ []) (Holds (codes "MACRO_CONTEXT") (pieces_set (shown_all c.args.area.now.context.items)) ∷ []))
    c.push_held-2.ensures
