-- The value of a tree: a text, or none for a fault.
use Rattle.std.specs.Prelude.{ℕ, Bool, true, false, ◌||◌, List, [], ◌∷◌, length, Option, Some, None, if◌then◌else◌, ◌==◌, ℤ, pos, negsuc, ◌+ℤ◌, ◌-ℤ◌, ◌*ℤ◌, neg_ℤ, int_div, int_rem}
use Rattle.std.specs.Ordering.{nat_cmp, int_cmp, is_lt, is_eq, is_gt, is_le, is_ge, is_ne}
use Rattle.std.specs.Cmp.Lexicographic.{slice_cmp}
use Rattle.std.specs.declared.cmp.Ordering.{Ordering}
use Rattle.dp_expr.specs.declared.operator.Operator.{Operator}
use Rattle.dp_expr.specs.declared.operator.Operator.TheVariants.{Or, And, Equal, NotEqual, LessThan, AtMost, MoreThan, AtLeast, Plus, Minus, Times, Over, Remainder}
use Rattle.dp_expr.specs.declared.operator.Prefix.{Prefix}
use Rattle.dp_expr.specs.declared.operator.Prefix.TheVariants.{Negate, Not}
use Rattle.dp_expr.specs.Numbers.{number_of, in_range, decimal_text}
use Rattle.dp_expr.specs.Trees.{Tree, Leaf, Group, Before, Between}

-- a text, or none for a fault
abbrev pub Outcome : Type 0
Outcome = Option (List ℕ)

-- there is a number, and it is zero
abbrev pub is_zero : Option ℤ → Bool
is_zero None = false
is_zero (Some (pos n)) = n == 0
is_zero (Some (negsuc n)) = false

-- the empty text, or a number equal to zero
unfoldable pub is_false : List ℕ → Bool
is_false text = length text == 0 || is_zero (number_of text)

-- `1` or `0`
abbrev pub truth : Bool → List ℕ
truth true = 49 ∷ []
truth false = 48 ∷ []

-- the order of two texts whose numbers are given: as numbers if both are numbers, else by bytes
abbrev pub order_by : Option ℤ → Option ℤ → List ℕ → List ℕ → Ordering
order_by (Some m) (Some n) a b = int_cmp m n
order_by (Some m) None a b = slice_cmp nat_cmp a b
order_by None n a b = slice_cmp nat_cmp a b

-- the same order, given only the texts
unfoldable pub order_of : List ℕ → List ℕ → Ordering
order_of a b = order_by (number_of a) (number_of b) a b

-- the quotient, truncated toward zero, if there is one in range
abbrev pub quotient : ℤ → ℤ → Option ℤ
quotient m n = if is_zero (Some n) then None else in_range (int_div m n)

-- the remainder, which has the sign of the left side, if there is one
abbrev pub remainder : ℤ → ℤ → Option ℤ
remainder m n = if is_zero (Some n) then None else Some (int_rem m n)

-- the result of an operator of arithmetic for two numbers, if it is in range
abbrev pub result_of : Operator → ℤ → ℤ → Option ℤ
result_of Or m n = None
result_of And m n = None
result_of Equal m n = None
result_of NotEqual m n = None
result_of LessThan m n = None
result_of AtMost m n = None
result_of MoreThan m n = None
result_of AtLeast m n = None
result_of Plus m n = in_range (m +ℤ n)
result_of Minus m n = in_range (m -ℤ n)
result_of Times m n = in_range (m *ℤ n)
result_of Over m n = quotient m n
result_of Remainder m n = remainder m n

-- the text of such a result; a side that is not a number is a fault
abbrev pub result_text : Operator → Option ℤ → Option ℤ → Outcome
result_text operator None n = None
result_text operator (Some m) None = None
result_text operator (Some m) (Some n) = decimal_text (result_of operator m n)

-- an operator of arithmetic between two texts
abbrev pub arithmetic : Operator → List ℕ → List ℕ → Outcome
arithmetic operator a b = result_text operator (number_of a) (number_of b)

-- `a | b`: the first if it is not false, else the second
abbrev pub either : List ℕ → List ℕ → List ℕ
either a b = if is_false a then b else a

-- `a & b`: the first if neither is false
abbrev pub both : List ℕ → List ℕ → List ℕ
both a b = if is_false a || is_false b then truth false else a

-- an operator between two texts
abbrev pub text_between : Operator → List ℕ → List ℕ → Outcome
text_between Or a b = Some (either a b)
text_between And a b = Some (both a b)
text_between Equal a b = Some (truth (is_eq (order_of a b)))
text_between NotEqual a b = Some (truth (is_ne (order_of a b)))
text_between LessThan a b = Some (truth (is_lt (order_of a b)))
text_between AtMost a b = Some (truth (is_le (order_of a b)))
text_between MoreThan a b = Some (truth (is_gt (order_of a b)))
text_between AtLeast a b = Some (truth (is_ge (order_of a b)))
text_between Plus a b = arithmetic Plus a b
text_between Minus a b = arithmetic Minus a b
text_between Times a b = arithmetic Times a b
text_between Over a b = arithmetic Over a b
text_between Remainder a b = arithmetic Remainder a b

-- an operator between two values: a fault on either side is a fault of the whole
abbrev pub value_between : Operator → Outcome → Outcome → Outcome
value_between operator None b = None
value_between operator (Some a) None = None
value_between operator (Some a) (Some b) = text_between operator a b

-- the text of the negated number; a text that is not a number is a fault
abbrev pub negation : Option ℤ → Outcome
negation None = None
negation (Some n) = decimal_text (in_range (neg_ℤ n))

-- a unary operator before a value
abbrev pub value_before : Prefix → Outcome → Outcome
value_before prefix None = None
value_before Negate (Some a) = negation (number_of a)
value_before Not (Some a) = Some (truth (is_false a))

-- the value of a tree
abbrev pub value_of : Tree → Outcome
value_of (Leaf bytes) = Some bytes
value_of (Group inner) = value_of inner
value_of (Before prefix operand) = value_before prefix (value_of operand)
value_of (Between operator left right) = value_between operator (value_of left) (value_of right)

-- the result of an evaluation: the text, which is empty for a fault
abbrev pub answer : Outcome → List ℕ
answer None = []
answer (Some text) = text
