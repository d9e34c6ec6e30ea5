-- The value of an expression.
use Rattle.std.specs.Prelude.{◌≡◌, None, List, [], ℕ, unwrap_or}
use Rattle.dp_expr.specs.Tokens.{tokens_of}
use Rattle.dp_expr.specs.Trees.{Tree, IsTree}
use Rattle.dp_expr.specs.Values.{value_of, answer}
use Rattle.dp_expr.specs.Walk.{Wanting, walk, values}

-- the bytes are the value of the text: that of its tree, or empty if it has none
pub record IsValue (text bytes : List ℕ) : Type 0 where
  pub tree : (tree : Tree) → IsTree text tree → bytes ≡ answer (value_of tree)
  pub none : ((tree : Tree) → ¬ (IsTree text tree)) → bytes ≡ []

-- that value as a function, for definitions that need one: `one_value` says that it is the only value of each text
unfoldable pub expression_value : List ℕ → List ℕ
expression_value text = answer (unwrap_or (walk values (Wanting []) (tokens_of text)) None)
