use Rattle.std.proofs.Common.{sym, ◌∙◌, rules, w64, int_cmp}
use Rattle.std.proofs.lemmas.Int.{to_z-of_z}
use Rattle.std.specs.Prelude.{FitsSigned}
use Rattle.dp_expr.specs.steps.Texts.{text_seen}
use Rattle.dp_expr.proofs.TextsLemmas.{order_of-numbers, order_of-first, order_of-second}
use Rattle.dp_expr.proofs.text_value.TextValue.order.Goals as goal

pub returns-in_default : goal.returns-in_default
returns-in_default c =
    c.order_of_bytes.ensures
    ∙ sym (order_of-first (text_seen c.args.self.now) (text_seen c.args.other.now) (sym c.number.ensures ∙ c.in_default.is))

pub returns-in_default-number : goal.returns-in_default-number
returns-in_default-number c =
    c.order_of_bytes-in_default-number.ensures
    ∙ sym (order_of-second (text_seen c.args.self.now) (text_seen c.args.other.now) c.in-Some.left (sym c.number.ensures ∙ c.in-Some.is) (sym c.number-2.ensures ∙ c.in_default-number.is))

pub returns : goal.returns
returns c =
    let e = order_of-numbers (text_seen c.args.self.now) (text_seen c.args.other.now) c.in-Some.left c.in-Some-number.right (sym c.number.ensures ∙ c.in-Some.is) (sym c.number-2.ensures ∙ c.in-Some-number.is) in
    let first : FitsSigned w64 c.in-Some.left = search rules in
    let second : FitsSigned w64 c.in-Some-number.right = search rules in
    c.cmp.ensures ∙ (λ i. int_cmp (to_z-of_z w64 c.in-Some.left first i) (to_z-of_z w64 c.in-Some-number.right second i)) ∙ sym e
