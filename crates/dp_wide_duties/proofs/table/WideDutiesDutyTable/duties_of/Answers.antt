use Rattle.std.proofs.Common.{◌≡◌, ap, ◌∙◌}
use Rattle.std.proofs.lemmas.Result.{IfOk-weaker}
use Rattle.dp_closed.specs.Owed.{Owes}
use Rattle.dp_closed.specs.Shown.{shown_area, shown_duties}
use Rattle.dp_pieces.specs.NamesAt.{names_of}
use Rattle.dp_pieces.specs.Shown.{shown_all}
use Rattle.dp_reach.specs.Bounds.{obligations}
use Rattle.dp_wide.specs.Functions.{wide_functions}
use Rattle.dp_wide_pieces.specs.WideTexts.{wide_text_pieces}
use Rattle.dp_wide_pieces.proofs.ExpansionLemmas.{fits-wide}
use Rattle.dp_wide_duties.specs.Exchange.{exchange_duties}
use Rattle.dp_wide_duties.proofs.table.WideDutiesDutyTable.duties_of.Goals as goal

pub returns : goal.returns
returns c =
    let names = names_of c.args.names.now in
    let area = shown_area c.args.area.now in
    let pieces = wide_text_pieces names c.args.arguments.now in
    let read : shown_all c.deref.result.now ≡ pieces = ap shown_all c.deref.ensures.value ∙ c.in_ok-pieces.ensures in
    IfOk-weaker c.duties.result
    (λ list. shown_duties list.items ≡ exchange_duties c.args.name.now area (shown_all c.deref.result.now))
    (λ list. Owes (obligations wide_functions exchange_duties) names area c.args.name.now c.args.arguments.now (shown_duties list.items))
    (λ list same. record { pieces = pieces; fits = λ sight within. fits-wide names sight c.args.arguments.now within; same = same ∙ ap (exchange_duties c.args.name.now area) read })
    c.duties.ensures
