use Rattle.std.proofs.Common.{Some, sym, ap, ◌∙◌, rules, w64}
use Rattle.std.specs.Prelude.{FitsSigned}
use Rattle.std.proofs.lemmas.Int.{to_z-of_z}
use Rattle.dp_expr.specs.Numbers.{number_of}
use Rattle.dp_expr.specs.steps.Texts.{text_seen}
use Rattle.dp_expr.proofs.NumbersLemmas.{number_of-decimal_text}
use Rattle.dp_expr.proofs.text_value.TextValue.number.Goals as goal

pub returns-in-Computed : goal.returns-in-Computed
returns-in-Computed c =
    let fits : FitsSigned w64 c.in-Computed.number = search rules in
    ap Some (to_z-of_z w64 c.in-Computed.number fits)
    ∙ sym (number_of-decimal_text c.in-Computed.number fits)
    ∙ ap (λ t. number_of (text_seen t)) (sym c.in-Computed.is)
