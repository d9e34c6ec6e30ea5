use Rattle.std.proofs.Common.{◌≡◌, IfOk, sym, ap, subst, ◌∙◌, List, ℕ}
use Rattle.dp_expr.specs.steps.Texts.{value_seen}
use Rattle.dp_expr.specs.Values.{answer}
use Rattle.dp_expr.specs.Expression.{expression_value}
use Rattle.dp_expr.proofs.Readings.{expression_value-reading, expression_value-none}
use Rattle.dp_expr.proofs.expression.evaluate.Goals as goal

pub returns-in-Some-clause-exact : goal.returns-in-Some-clause-exact
unfolding expression_value
returns-in-Some-clause-exact c =
    let same = ap (λ v. answer (value_seen v)) (sym c.in-Some.is) ∙ ap answer c.in_ok-value.ensures in
    subst (λ (x : List ℕ). IfOk c.of.result (λ value. value ≡ x)) same c.of.ensures

pub returns-in-Some-clause-value : goal.returns-in-Some-clause-value
returns-in-Some-clause-value c = λ tree reading.
    subst (λ (x : List ℕ). IfOk c.of.result (λ value. value ≡ x))
    (expression_value-reading c.args.text.now tree reading) (returns-in-Some-clause-exact c)

pub returns-in-Some-clause-fault : goal.returns-in-Some-clause-fault
returns-in-Some-clause-fault c = λ none.
    subst (λ (x : List ℕ). IfOk c.of.result (λ value. value ≡ x))
    (expression_value-none c.args.text.now none) (returns-in-Some-clause-exact c)

pub returns-in-None-clause-exact : goal.returns-in-None-clause-exact
unfolding expression_value
returns-in-None-clause-exact c =
    c.empty.ensures ∙ ap (λ v. answer (value_seen v)) (sym c.in-None.is) ∙ ap answer c.in_ok-value.ensures

pub returns-in-None-clause-value : goal.returns-in-None-clause-value
returns-in-None-clause-value c = λ tree reading.
    returns-in-None-clause-exact c ∙ expression_value-reading c.args.text.now tree reading
