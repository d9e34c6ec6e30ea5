-- Quotients that are not whole, which an evaluation truncates toward zero.
use Rattle.std.specs.Prelude.{Bool, false, ◌||◌, not, Some, None}
use Rattle.dp_expr.specs.declared.operator.Operator.{Operator}
use Rattle.dp_expr.specs.declared.operator.Operator.TheVariants.{Or, And, Equal, NotEqual, LessThan, AtMost, MoreThan, AtLeast, Plus, Minus, Times, Over, Remainder}
use Rattle.dp_expr.specs.Trees.{Tree, Leaf, Group, Before, Between}
use Rattle.dp_expr.specs.Values.{Outcome, is_false, value_between, value_of}

-- there is a remainder that is not zero
abbrev pub is_rest : Outcome → Bool
is_rest None = false
is_rest (Some text) = not (is_false text)

-- the operator is a division of two numbers with a remainder
abbrev pub leaves_rest : Operator → Outcome → Outcome → Bool
leaves_rest Or a b = false
leaves_rest And a b = false
leaves_rest Equal a b = false
leaves_rest NotEqual a b = false
leaves_rest LessThan a b = false
leaves_rest AtMost a b = false
leaves_rest MoreThan a b = false
leaves_rest AtLeast a b = false
leaves_rest Plus a b = false
leaves_rest Minus a b = false
leaves_rest Times a b = false
leaves_rest Over a b = is_rest (value_between Remainder a b)
leaves_rest Remainder a b = false

-- some quotient in the tree is not whole
abbrev pub has_cut_quotient : Tree → Bool
has_cut_quotient (Leaf bytes) = false
has_cut_quotient (Group inner) = has_cut_quotient inner
has_cut_quotient (Before prefix operand) = has_cut_quotient operand
has_cut_quotient (Between operator left right) =
    has_cut_quotient left || has_cut_quotient right || leaves_rest operator (value_of left) (value_of right)
