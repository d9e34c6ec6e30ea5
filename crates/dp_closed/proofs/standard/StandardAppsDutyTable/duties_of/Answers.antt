use Rattle.std.proofs.Common.{◌≡◌}
use Rattle.std.proofs.lemmas.Result.{IfOk-weaker}
use Rattle.dp_closed.specs.Owed.{Owes}
use Rattle.dp_closed.specs.Shown.{shown_area, shown_duties}
use Rattle.dp_pieces.specs.NamesAt.{names_of}
use Rattle.dp_pieces.specs.Texts.{text_pieces}
use Rattle.dp_pieces.proofs.TextLemmas.{fits-expansion}
use Rattle.dp_reach.specs.Standard.{standard_duties, standard_obligations}
use Rattle.dp_closed.proofs.standard.StandardAppsDutyTable.duties_of.Goals as goal

pub returns : goal.returns
returns c =
    let names = names_of c.args.names.now in
    let area = shown_area c.args.area.now in
    let pieces = text_pieces names c.args.arguments.now in
    IfOk-weaker c.duties_by_arguments.result
    (λ list. shown_duties list.items ≡ standard_duties c.args.name.now area pieces)
    (λ list. Owes standard_obligations names area c.args.name.now c.args.arguments.now (shown_duties list.items))
    (λ list same. record { pieces = pieces; fits = λ sight within. fits-expansion names sight within c.args.arguments.now; same = same })
    c.duties_by_arguments.ensures
