-- Reading a text by the grammar.
use Rattle.std.specs.Prelude.{◌≡◌, ℕ, suc, ◌≤◌, max, List, [], ◌∷◌, ◌++◌, ⊤}
use Rattle.dp_expr.specs.declared.operator.Operator.{Operator}
use Rattle.dp_expr.specs.declared.operator.Operator.TheVariants.{Or, And, Equal, NotEqual, LessThan, AtMost, MoreThan, AtLeast, Plus, Minus, Times, Over, Remainder}
use Rattle.dp_expr.specs.declared.operator.Prefix.{Prefix}
use Rattle.dp_expr.specs.declared.operator.Prefix.TheVariants.{Negate, Not}
use Rattle.dp_expr.specs.Tokens.{TokenOf, Operand, Sign, Bang, Opening, Closing, tokens_of}

-- a word or a quoted operand, an expression in parentheses, a unary operator, a binary operator
pub data Tree : Type 0 where
  Leaf : (bytes : List ℕ) → Tree
  Group : (inner : Tree) → Tree
  Before : (prefix : Prefix) (operand : Tree) → Tree
  Between : (operator : Operator) (left right : Tree) → Tree

-- the token of a unary operator
abbrev pub prefix_token : Prefix → TokenOf
prefix_token Negate = Sign Minus
prefix_token Not = Bang

-- the tokens of a tree
abbrev pub spelling : Tree → List TokenOf
spelling (Leaf bytes) = Operand bytes ∷ []
spelling (Group inner) = Opening ∷ (spelling inner ++ (Closing ∷ []))
spelling (Before prefix operand) = prefix_token prefix ∷ spelling operand
spelling (Between operator left right) = spelling left ++ (Sign operator ∷ spelling right)

-- how tightly an operator binds
abbrev pub level_of : Operator → ℕ
level_of Or = 1
level_of And = 2
level_of Equal = 3
level_of NotEqual = 3
level_of LessThan = 3
level_of AtMost = 3
level_of MoreThan = 3
level_of AtLeast = 3
level_of Plus = 4
level_of Minus = 4
level_of Times = 5
level_of Over = 5
level_of Remainder = 5

-- the level of a whole expression, that of its loosest operator
abbrev pub expression_level : ℕ
expression_level = 1

-- the level of a unary operator and its operand, above all others
abbrev pub unary_level : ℕ
unary_level = 6

-- a line of the grammar allows the tree, where the lines are numbered by levels: an operator of that level or a tighter
-- one, with its own level on its left and the next tighter one on its right, so that operators group to the left; a
-- unary operator before a unary; any expression in parentheses
abbrev pub IsGrouped : ℕ → Tree → Type 0
IsGrouped n (Leaf bytes) = ⊤
IsGrouped n (Group inner) = IsGrouped expression_level inner
IsGrouped n (Before prefix operand) = IsGrouped unary_level operand
IsGrouped n (Between operator left right) =
    (n ≤ level_of operator) × IsGrouped (level_of operator) left × IsGrouped (suc (level_of operator)) right

-- the greatest number of nested parentheses and unary operators
abbrev pub depth_of : Tree → ℕ
depth_of (Leaf bytes) = 0
depth_of (Group inner) = suc (depth_of inner)
depth_of (Before prefix operand) = suc (depth_of operand)
depth_of (Between operator left right) = max (depth_of left) (depth_of right)

-- the greatest depth allowed
abbrev pub most_depth : ℕ
most_depth = 32

-- the tokens are those of the tree, and the grammar allows it
pub record IsTreeReading (tokens : List TokenOf) (tree : Tree) : Type 0 where
  pub spelling : tokens ≡ spelling tree
  pub grouped : IsGrouped expression_level tree
  pub shallow : depth_of tree ≤ most_depth

-- the text reads as the tree
abbrev pub IsTree : List ℕ → Tree → Type 0
IsTree text tree = IsTreeReading (tokens_of text) tree
