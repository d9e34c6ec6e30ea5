use Rattle.std.proofs.Common.{◌<◌, length, ap, sym, ◌∙◌, arith, rules}
use Rattle.dp_expr.specs.Numbers.{in_word}
use Rattle.dp_expr.proofs.NumbersLemmas.{read_on-in, read_on-end, read_on-all, read_on-natural, natural_of-empty}
use Rattle.dp_expr.proofs.number.natural_of.Goals as goal

pub returns-then-is_empty : goal.returns-then-is_empty
returns-then-is_empty c =
    sym (ap in_word (natural_of-empty c.args.digits.now (search rules)))

pub returns-in_err-value : goal.returns-in_err-value
returns-in_err-value c =
    let digits = c.args.digits.now in
    let some : 0 < length digits = search rules in
    c.from_residual.ensures
    ∙ sym (read_on-end digits c.loop-digit.digit-index c.loop-digit.value (omega arith) (sym c.next_value.ensures ∙ c.in_err-value.was))
    ∙ c.loop-digit.invariant ∙ read_on-natural digits some

pub loop-digit-preserved : goal.loop-digit-preserved
loop-digit-preserved c =
    sym (read_on-in c.args.digits.now c.loop-digit.digit-index c.loop-digit.value c.in_ok-value.value (omega arith) (sym c.next_value.ensures ∙ c.in_ok-value.was))
    ∙ c.loop-digit.invariant

pub returns : goal.returns
returns c =
    let digits = c.args.digits.now in
    let some : 0 < length digits = search rules in
    sym (read_on-all digits c.loop-digit.digit-index c.loop-digit.value (omega arith))
    ∙ c.loop-digit.invariant ∙ read_on-natural digits some
