use Rattle.std.proofs.Common.{◌≡◌, ◌++◌, ap, ◌∙◌, subst}
use Rattle.std.specs.Prelude.{OnOk}
use Rattle.dp_closed.specs.Shown.{shown_duties}
use Rattle.dp_conf.specs.Blanks.{trim}
use Rattle.dp_conf.specs.Cut.{cut_once}
use Rattle.dp_pieces.specs.Cuts.{cut_known}
use Rattle.dp_pieces.specs.Shown.{shown_all}
use Rattle.dp_reach.specs.Settings.{name_duties}
use Rattle.dp_closed.proofs.KnownLemmas.{pair-known}
use Rattle.dp_closed.proofs.settings.push_set.Goals as goal

pub returns-in_ok-name-in-Some : goal.returns-in_ok-name-in-Some
returns-in_ok-name-in-Some c =
    let name = c.trim.ensures ∙ ap trim (c.deref.ensures.value ∙ c.in_ok-name-in-Some.ensures) in
    subst (λ ds. OnOk c.push_setting.result (shown_duties c.push_setting.new.duties.items ≡ shown_duties c.args.duties.now.items ++ ds))
    ((λ i. name_duties (name i) (cut_once 40 (name i)) (c.set_of.ensures i))
    ∙ pair-known (shown_all c.args.pieces.now) (cut_known 61 (shown_all c.args.pieces.now)) (shown_all c.in-Some.name.now) (shown_all c.in-Some.value.now) c.in-Some.ensures)
    c.push_setting.ensures
