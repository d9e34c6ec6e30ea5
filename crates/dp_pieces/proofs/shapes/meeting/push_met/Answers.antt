use Rattle.std.proofs.Common.{◌++◌, ◌∙◌, ap, sym}
use Rattle.dp_pieces.specs.Sets.{set_by}
use Rattle.dp_pieces.specs.Shown.{shown_piece, shown_all}
use Rattle.dp_pieces.proofs.ShapeLemmas.{any-met}
use Rattle.dp_pieces.proofs.shapes.meeting.push_met.Goals as goal

pub returns-in_default-meet_one : goal.returns-in_default-meet_one
returns-in_default-meet_one c =
    c.in_ok-push_any.ensures
    ∙ (ap (λ ps. shown_all c.loop-class.met.items ++ ps) (sym (
    any-met (shown_piece c.in-Some-split_first.piece.now) (shown_all c.in-Some-split_first.later.now) (shown_all c.loop-class.rest.now) c.in-Some.class.now c.in-Some.after.now c.loop-class.left.now
    c.args.tail (set_by c.bytes_of.result) c.in_default-meet_one.ensures (ap shown_all c.in-Some-split_first.ensures.cases.0) c.in-Some.ensures.cases.0 c.bytes_of.ensures))
    ∙ c.loop-class.invariant.met)
