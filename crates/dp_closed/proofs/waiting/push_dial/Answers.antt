use Rattle.std.proofs.Common.{◌≡◌, ◌++◌, ◌∷◌, [], subst}
use Rattle.std.specs.Prelude.{OnOk, codes}
use Rattle.dp_closed.specs.Shown.{shown_duties}
use Rattle.dp_pieces.specs.Pieces.{bytes_in}
use Rattle.dp_reach.specs.Bounds.{Holds}
use Rattle.dp_closed.proofs.waiting.push_dial.Goals as goal

pub returns : goal.returns
returns c =
    subst (λ text. OnOk c.push_texts.result (shown_duties c.push_texts.new.duties.items ≡ shown_duties c.args.duties.now.items ++ Holds (codes "DIALSTATUS") (bytes_in text) ∷ []))
    c.as_slice.ensures c.push_texts.ensures
