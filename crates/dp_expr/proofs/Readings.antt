-- Tokens have at most one reading, and a walk finds it.
use Rattle.std.specs.Prelude.{unwrap_or}
use Rattle.std.proofs.Common.{◌≡◌, ℕ, List, [], Option, Some, None, refl, sym, ◌∙◌, ap, option_map}
use Rattle.dp_expr.specs.Expression.{IsValue, expression_value}
use Rattle.dp_expr.specs.Tokens.{TokenOf, tokens_of}
use Rattle.dp_expr.specs.Trees.{Tree, Leaf, Group, Before, Between, IsTreeReading}
use Rattle.dp_expr.specs.Values.{value_of, answer}
use Rattle.dp_expr.specs.Walk.{Wanting, walk, trees, values}
use Rattle.dp_expr.proofs.Completeness.{made_of, walk-reading}
use Rattle.dp_expr.proofs.Soundness.{reading-walk}
use Rattle.dp_expr.proofs.Making.{walk-trees}

-- a tree made of trees is itself
made_of-trees : (tree : Tree) → made_of trees tree ≡ tree
made_of-trees (Leaf bytes) = refl
made_of-trees (Group inner) = ap Group (made_of-trees inner)
made_of-trees (Before prefix operand) = ap (Before prefix) (made_of-trees operand)
made_of-trees (Between operator left right) = cc (made_of-trees left, made_of-trees right)

-- two readings of the same tokens are equal
pub reading_unique : (tokens : List TokenOf) (s t : Tree) → IsTreeReading tokens s → IsTreeReading tokens t → s ≡ t
reading_unique tokens s t p q =
    let e = walk-reading trees tokens s p in
    let f = walk-reading trees tokens t q in
    let a = made_of-trees s in
    let b = made_of-trees t in
    cc

-- a walk over trees finds the reading
pub walk-tree : (tokens : List TokenOf) (tree : Tree) → IsTreeReading tokens tree → walk trees (Wanting []) tokens ≡ Some tree
walk-tree tokens tree reading = walk-reading trees tokens tree reading ∙ ap Some (made_of-trees tree)

-- what is made of values is the tree's value
pub made_of-values : (tree : Tree) → made_of values tree ≡ value_of tree
made_of-values (Leaf bytes) = refl
made_of-values (Group inner) = made_of-values inner
made_of-values (Before prefix operand) = ap (values.before prefix) (made_of-values operand)
made_of-values (Between operator left right) = cc (made_of-values left, made_of-values right)

-- a walk gives a reading's value
pub walk-value : (tokens : List TokenOf) (tree : Tree) → IsTreeReading tokens tree → walk values (Wanting []) tokens ≡ Some (value_of tree)
walk-value tokens tree reading = walk-reading values tokens tree reading ∙ ap Some (made_of-values tree)

-- a walk makes no tree if there is no reading
no_tree : (tokens : List TokenOf) (o : Option Tree) → walk trees (Wanting []) tokens ≡ o → ((tree : Tree) → ¬ (IsTreeReading tokens tree)) → option_map (made_of values) o ≡ None
no_tree tokens None e none = refl
no_tree tokens (Some tree) e none = absurd (none tree (reading-walk tokens tree e))

-- and it gives no value if there is no reading
pub walk-none : (tokens : List TokenOf) → ((tree : Tree) → ¬ (IsTreeReading tokens tree)) → walk values (Wanting []) tokens ≡ None
walk-none tokens none = walk-trees values tokens ∙ no_tree tokens (walk trees (Wanting []) tokens) refl none

-- nor does a walk over trees find one then
pub walk-no_tree : (tokens : List TokenOf) → ((tree : Tree) → ¬ (IsTreeReading tokens tree)) → walk trees (Wanting []) tokens ≡ None
walk-no_tree tokens none = by (walk trees (Wanting []) tokens) refl
  where
    by : (o : Option Tree) → walk trees (Wanting []) tokens ≡ o → o ≡ None
    by None e = refl
    by (Some tree) e = absurd (none tree (reading-walk tokens tree e))

-- the value of a text with a reading
pub expression_value-reading : (text : List ℕ) (tree : Tree) → IsTreeReading (tokens_of text) tree → expression_value text ≡ answer (value_of tree)
unfolding expression_value
expression_value-reading text tree reading =
    ap (λ o. answer (unwrap_or o None)) (walk-value (tokens_of text) tree reading)

-- the value of a text without a reading
pub expression_value-none : (text : List ℕ) → ((tree : Tree) → ¬ (IsTreeReading (tokens_of text) tree)) → expression_value text ≡ []
unfolding expression_value
expression_value-none text none =
    ap (λ o. answer (unwrap_or o None)) (walk-none (tokens_of text) none)

-- the function is a value
pub IsValue-expression_value : (text : List ℕ) → IsValue text (expression_value text)
IsValue-expression_value text =
    record { tree = expression_value-reading text; none = expression_value-none text }

-- nothing else is a value: either the walk over trees makes a tree, or it makes none
value_by : (text bytes : List ℕ) (o : Option Tree) → walk trees (Wanting []) (tokens_of text) ≡ o → IsValue text bytes → bytes ≡ expression_value text
value_by text bytes None e is =
    let none : (tree : Tree) → ¬ (IsTreeReading (tokens_of text) tree) = λ tree reading. absurd_walk tree reading in
    is.none none ∙ sym (expression_value-none text none)
  where
    absurd_walk : (tree : Tree) → IsTreeReading (tokens_of text) tree → ⊥
    absurd_walk tree reading = let f = walk-reading trees (tokens_of text) tree reading in cc
value_by text bytes (Some tree) e is =
    let reading = reading-walk (tokens_of text) tree e in
    is.tree tree reading ∙ sym (expression_value-reading text tree reading)

-- and it is the only one
pub value_unique : (text bytes : List ℕ) → IsValue text bytes → bytes ≡ expression_value text
value_unique text bytes is = value_by text bytes (walk trees (Wanting []) (tokens_of text)) refl is
