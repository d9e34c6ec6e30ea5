use Rattle.std.proofs.Common.{[], None, sym, ◌∙◌}
use Rattle.std.specs.Prelude.{is_some, unwrap_or}
use Rattle.dp_expr.specs.declared.division.Division.TheVariants.{Cut}
use Rattle.dp_expr.specs.Tokens.{tokens_of}
use Rattle.dp_expr.specs.Walk.{Wanting, walk}
use Rattle.dp_expr.specs.steps.Exact.{values_by}
use Rattle.dp_expr.proofs.AsteriskReadings.{reading_by, tree_reading-walk}
use Rattle.dp_expr.proofs.reading.tree_reading.Goals as goal

-- there is an exact value
pub returns-then-branch : goal.returns-then-branch
returns-then-branch c =
    let exact = sym c.in_ok-has_value.ensures ∙ c.if-branch.true in
    let cut = is_some (unwrap_or (walk (values_by Cut) (Wanting []) (tokens_of c.args.text.now)) None) in
    sym (tree_reading-walk (tokens_of c.args.text.now) ∙ (λ i. reading_by (exact i) cut))

-- there is a value, but no exact one
pub returns-then-branch-2 : goal.returns-then-branch-2
returns-then-branch-2 c =
    let exact = sym c.in_ok-has_value.ensures ∙ c.if-branch.false in
    let cut = sym c.in_ok-has_value-2.ensures ∙ c.if-branch-2.true in
    sym (tree_reading-walk (tokens_of c.args.text.now) ∙ (λ i. reading_by (exact i) (cut i)))

-- there is none
pub returns-else-branch-2 : goal.returns-else-branch-2
returns-else-branch-2 c =
    let exact = sym c.in_ok-has_value.ensures ∙ c.if-branch.false in
    let cut = sym c.in_ok-has_value-2.ensures ∙ c.if-branch-2.false in
    sym (tree_reading-walk (tokens_of c.args.text.now) ∙ (λ i. reading_by (exact i) (cut i)))
