use Rattle.std.proofs.Common.{◌≡◌, ◌++◌, ap, ◌∙◌, subst}
use Rattle.std.specs.Prelude.{OnOk}
use Rattle.dp_closed.specs.Shown.{shown_duties}
use Rattle.dp_conf.specs.Blanks.{trim_start}
use Rattle.dp_pieces.specs.Cuts.{cut_known}
use Rattle.dp_pieces.specs.Pieces.{pieces_set}
use Rattle.dp_pieces.specs.Shown.{shown_all}
use Rattle.dp_reach.specs.Settings.{any_argument_duties}
use Rattle.dp_closed.proofs.KnownLemmas.{unknown-known}
use Rattle.dp_closed.proofs.settings.push_unknown.Goals as goal

pub returns-in_ok-function-in-Some : goal.returns-in_ok-function-in-Some
returns-in_ok-function-in-Some c =
    subst (λ ds. OnOk c.push_any_argument.result (shown_duties c.push_any_argument.new.duties.items ≡ shown_duties c.args.duties.now.items ++ ds))
    ((λ i. any_argument_duties ((c.trim_start.ensures ∙ ap trim_start (c.deref.ensures.value ∙ c.in_ok-function-in-Some.ensures)) i) (c.set_of-set.ensures i))
    ∙ unknown-known (pieces_set (shown_all c.args.pieces.now)) (cut_known 40 (shown_all c.args.pieces.now)) (shown_all c.in-Some.function.now) (shown_all c.in-Some.field-0-1.now) c.in-Some.ensures)
    c.push_any_argument.ensures
