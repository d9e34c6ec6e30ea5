use Rattle.std.proofs.Common.{Some, sym, ap, ◌∙◌, rules, w64}
use Rattle.std.specs.Prelude.{FitsSigned}
use Rattle.std.proofs.lemmas.Int.{to_z-of_z}
use Rattle.dp_expr.specs.Values.{is_zero, is_false}
use Rattle.dp_expr.specs.steps.Texts.{text_seen}
use Rattle.dp_expr.proofs.TextsLemmas.{is_false-decimal_text}
use Rattle.dp_expr.proofs.text_value.TextValue.is_false.Goals as goal

pub returns-in-Computed : goal.returns-in-Computed
returns-in-Computed c =
    let fits : FitsSigned w64 c.in-Computed.number = search rules in
    c.is_zero-in-Computed.ensures
    ∙ ap (λ z. is_zero (Some z)) (to_z-of_z w64 c.in-Computed.number fits)
    ∙ is_false-decimal_text c.in-Computed.number fits
    ∙ ap (λ t. is_false (text_seen t)) (sym c.in-Computed.is)
