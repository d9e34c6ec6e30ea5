use Rattle.std.proofs.Common.{ap, ◌∙◌, sym, subst}
use Rattle.dp_pieces.specs.Bytes.{Bytes, Within}
use Rattle.dp_pieces.specs.NamesAt.{names_of}
use Rattle.dp_pieces.specs.Pieces.{pieces_set}
use Rattle.dp_pieces.specs.Shown.{shown_all}
use Rattle.dp_vars.specs.Values.{expansion_with}
use Rattle.dp_wide.specs.Functions.{wide_functions}
use Rattle.dp_wide_pieces.proofs.ExpansionLemmas.{within-wide}
use Rattle.dp_wide_duties.proofs.table.WideDutiesDutyTable.expanded_bytes.Goals as goal

pub returns : goal.returns
returns c = λ sight within.
    subst (λ (set : Bytes). Within set (expansion_with wide_functions sight c.args.text.now))
    (sym (c.set_of.ensures ∙ (ap (λ ps. pieces_set (shown_all ps)) c.deref.ensures.value ∙ ap pieces_set c.in_ok-pieces.ensures)))
    (within-wide (names_of c.args.names.now) sight c.args.text.now within)
