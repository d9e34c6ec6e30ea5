use Rattle.std.proofs.Common.{◌≡◌, IfOk, sym, subst, ◌∙◌}
use Rattle.dp_expr.specs.declared.reading.ExpressionReading.{ExpressionReading}
use Rattle.dp_expr.specs.Tokens.{tokens_of}
use Rattle.dp_expr.specs.steps.Seen.{token_seen}
use Rattle.dp_expr.proofs.AsteriskReadings.{asterisk_reading-tree, asterisk_reading-none, asterisk_reading-unknown, asterisk_reading-blank, asterisk_reading-tokens}
use Rattle.dp_expr.proofs.reading.asterisk_reading.Goals as goal

pub returns-then-is_unknown_text-clause-exact : goal.returns-then-is_unknown_text-clause-exact
returns-then-is_unknown_text-clause-exact c =
    sym (asterisk_reading-unknown c.args.text.now (sym c.is_unknown_text.ensures ∙ c.if-is_unknown_text.true))

pub returns-then-is_unknown_text-clause-tree : goal.returns-then-is_unknown_text-clause-tree
returns-then-is_unknown_text-clause-tree c = λ tree reading.
    returns-then-is_unknown_text-clause-exact c ∙ asterisk_reading-tree c.args.text.now tree reading

pub returns-then-is_unknown_text-clause-fault : goal.returns-then-is_unknown_text-clause-fault
returns-then-is_unknown_text-clause-fault c = λ none.
    returns-then-is_unknown_text-clause-exact c ∙ asterisk_reading-none c.args.text.now none

pub returns-in-None-clause-exact : goal.returns-in-None-clause-exact
returns-in-None-clause-exact c =
    sym (asterisk_reading-blank c.args.text.now (sym c.is_unknown_text.ensures ∙ c.if-is_unknown_text.false) c.in-None.ensures)

pub returns-in-None-clause-tree : goal.returns-in-None-clause-tree
returns-in-None-clause-tree c = λ tree reading.
    returns-in-None-clause-exact c ∙ asterisk_reading-tree c.args.text.now tree reading

pub returns-in-None-clause-fault : goal.returns-in-None-clause-fault
returns-in-None-clause-fault c = λ none.
    returns-in-None-clause-exact c ∙ asterisk_reading-none c.args.text.now none

pub returns-in-Some-clause-exact : goal.returns-in-Some-clause-exact
returns-in-Some-clause-exact c =
    let next = c.in-Some.field-0 in
    let known = sym c.is_unknown_text.ensures ∙ c.if-is_unknown_text.false in
    let same = asterisk_reading-tokens c.args.text.now (token_seen next.0) (tokens_of next.1.now) known c.in-Some.ensures.tokens in
    subst (λ (x : ExpressionReading). IfOk c.tree_reading.result (λ reading. reading ≡ x)) (sym same) c.tree_reading.ensures

pub returns-in-Some-clause-tree : goal.returns-in-Some-clause-tree
returns-in-Some-clause-tree c = λ tree reading.
    subst (λ (x : ExpressionReading). IfOk c.tree_reading.result (λ reading. reading ≡ x))
    (asterisk_reading-tree c.args.text.now tree reading) (returns-in-Some-clause-exact c)

pub returns-in-Some-clause-fault : goal.returns-in-Some-clause-fault
returns-in-Some-clause-fault c = λ none.
    subst (λ (x : ExpressionReading). IfOk c.tree_reading.result (λ reading. reading ≡ x))
    (asterisk_reading-none c.args.text.now none) (returns-in-Some-clause-exact c)
