use Rattle.std.proofs.Common.{◌≡◌, Bool, true, [], ◌∷◌, ap, sym, ◌∙◌, if◌then◌else◌, rules}
use Rattle.std.proofs.lemmas.Result.{IfOk-weaker}
use Rattle.std.specs.Prelude.{codes}
use Rattle.dp_conf.specs.Words.{same_word}
use Rattle.dp_vars.specs.Values.{standard_functions}
use Rattle.dp_pieces.specs.NamesAt.{names_of}
use Rattle.dp_pieces.specs.Texts.{text_pieces}
use Rattle.dp_pieces.proofs.TextLemmas.{fits-expansion}
use Rattle.dp_reach.specs.Bounds.{Anything, obligations}
use Rattle.dp_reach.specs.Standard.{standard_duties}
use Rattle.dp_closed.specs.Owed.{Owes}
use Rattle.dp_closed.specs.Shown.{shown_area, shown_duties}
use Rattle.dp_reach_cases.specs.Hidden.{anything_owed, hidden_duties}
use Rattle.dp_reach_cases.proofs.pieces.hidden.HiddenAppsDutyTable.duties_of.Goals as goal

pub returns-then-same_word : goal.returns-then-same_word
returns-then-same_word c =
    let is : same_word c.args.name.now (codes "Playback") ≡ true = search rules in
    IfOk-weaker c.anything_owed.result
    (λ list. shown_duties list.items ≡ Anything ∷ [])
    (λ list. Owes (obligations standard_functions hidden_duties) (names_of c.args.names.now) (shown_area c.args.area.now) c.args.name.now c.args.arguments.now
    (shown_duties list.items))
    (λ list same. record {
      pieces = text_pieces (names_of c.args.names.now) c.args.arguments.now;
      fits = λ sight within. fits-expansion (names_of c.args.names.now) sight within c.args.arguments.now;
      same = same ∙ sym (ap (λ (b : Bool). (if b then anything_owed else standard_duties c.args.name.now) (shown_area c.args.area.now)
          (text_pieces (names_of c.args.names.now) c.args.arguments.now)) is);
    }) c.anything_owed.ensures
