use Rattle.std.proofs.Common.{◌||◌, drop, ap, sym, ◌∙◌}
use Rattle.dp_expr.specs.AsteriskReading.{has_foreign_mark}
use Rattle.dp_expr.specs.Tokens.{Cut, cut_at}
use Rattle.dp_expr.proofs.MarksLemmas.{has_foreign_mark-cut, has_foreign_mark-empty}
use Rattle.dp_expr.proofs.token.has_foreign_mark.Goals as goal

-- the byte is such a mark
pub returns-then-is_foreign_mark : goal.returns-then-is_foreign_mark
returns-then-is_foreign_mark c =
    let after = drop (cut_at c.in-Some.first.now c.in-Some.others.now).more c.in-Some.others.now in
    sym (ap (λ t. t || has_foreign_mark after) (sym c.is_foreign_mark.ensures ∙ c.if-is_foreign_mark.true))
    ∙ sym (has_foreign_mark-cut c.in-Some.first.now c.in-Some.others.now)
    ∙ sym (ap has_foreign_mark c.in-Some.ensures.cases.0) ∙ c.loop-first.invariant

-- the byte is not such a mark, and its token is skipped
pub loop-first-preserved : goal.loop-first-preserved
loop-first-preserved c =
    let others = c.in-Some.others.now in
    let after = drop (cut_at c.in-Some.first.now others).more others in
    ap has_foreign_mark (c.split_at.ensures.back ∙ ap (λ n. drop n others) (ap (λ (cut : Cut). cut.more) c.cut_at.ensures.cut))
    ∙ sym (ap (λ t. t || has_foreign_mark after) (sym c.is_foreign_mark.ensures ∙ c.if-is_foreign_mark.false))
    ∙ sym (has_foreign_mark-cut c.in-Some.first.now others)
    ∙ sym (ap has_foreign_mark c.in-Some.ensures.cases.0) ∙ c.loop-first.invariant

-- no byte is left
pub returns : goal.returns
returns c =
    sym (has_foreign_mark-empty c.loop-first.rest.now c.in_default.ensures.cases) ∙ c.loop-first.invariant
