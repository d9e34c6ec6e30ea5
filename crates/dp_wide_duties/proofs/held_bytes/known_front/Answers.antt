use Rattle.dp_pieces.specs.Cuts.{cut_known}
use Rattle.dp_pieces.specs.Shown.{shown_all}
use Rattle.dp_wide_duties.proofs.FrontLemmas.{front-known, front-never}
use Rattle.dp_wide_duties.proofs.held_bytes.known_front.Goals as goal

pub returns-in-None : goal.returns-in-None
returns-in-None c =
    front-never _ (cut_known c.args.mark (shown_all c.args.pieces.now)) (shown_all c.in-Some.front.now) (shown_all c.in-Some.rest.now) c.in_ok-known_text.ensures c.in-Some.ensures c.in-None.is

pub returns-in-Some-2 : goal.returns-in-Some-2
returns-in-Some-2 c =
    front-known _ (cut_known c.args.mark (shown_all c.args.pieces.now)) (shown_all c.in-Some.front.now) (shown_all c.in-Some.rest.now) c.in_ok-known_text.ensures c.in-Some.ensures
    c.in-Some-2.text c.in-Some-2.is
