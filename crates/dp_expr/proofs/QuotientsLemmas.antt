-- The value of a tree if a quotient that is not whole is a fault.
use Rattle.std.proofs.Common.{◌≡◌, true, false, cond, Bool, ◌||◌, Some, None, refl, ap, ◌∙◌}
use Rattle.dp_expr.specs.declared.division.Division.TheVariants.{Exact}
use Rattle.dp_expr.specs.declared.operator.Operator.{Operator}
use Rattle.dp_expr.specs.declared.operator.Operator.TheVariants.{Or, And, Equal, NotEqual, LessThan, AtMost, MoreThan, AtLeast, Plus, Minus, Times, Over, Remainder}
use Rattle.dp_expr.specs.declared.operator.Prefix.{Prefix}
use Rattle.dp_expr.specs.Quotients.{leaves_rest, has_cut_quotient}
use Rattle.dp_expr.specs.Trees.{Tree, Leaf, Group, Before, Between}
use Rattle.dp_expr.specs.Values.{Outcome, value_before, value_between, value_of}
use Rattle.dp_expr.specs.steps.Exact.{exact_between, values_by, exact_value_of}
use Rattle.dp_expr.proofs.Completeness.{made_of}

-- a fault on the left side stays a fault
exact_between-left : (operator : Operator) (b : Outcome) → exact_between operator None b ≡ None
exact_between-left Or b = refl
exact_between-left And b = refl
exact_between-left Equal b = refl
exact_between-left NotEqual b = refl
exact_between-left LessThan b = refl
exact_between-left AtMost b = refl
exact_between-left MoreThan b = refl
exact_between-left AtLeast b = refl
exact_between-left Plus b = refl
exact_between-left Minus b = refl
exact_between-left Times b = refl
exact_between-left Over b = refl
exact_between-left Remainder b = refl

-- and so does one on the right side
exact_between-right : (operator : Operator) (a : Outcome) → exact_between operator a None ≡ None
exact_between-right operator None = exact_between-left operator None
exact_between-right Or (Some a) = refl
exact_between-right And (Some a) = refl
exact_between-right Equal (Some a) = refl
exact_between-right NotEqual (Some a) = refl
exact_between-right LessThan (Some a) = refl
exact_between-right AtMost (Some a) = refl
exact_between-right MoreThan (Some a) = refl
exact_between-right AtLeast (Some a) = refl
exact_between-right Plus (Some a) = refl
exact_between-right Minus (Some a) = refl
exact_between-right Times (Some a) = refl
exact_between-right Over (Some a) = refl
exact_between-right Remainder (Some a) = refl

-- a unary operator does not depend on quotients
before_by : (prefix : Prefix) (cut : Bool) (a : Outcome) → value_before prefix (cond cut None a) ≡ cond cut None (value_before prefix a)
before_by prefix true a = refl
before_by prefix false a = refl

-- a quotient that is not whole on either side, or between them, is a fault
between_by-cut : (operator : Operator) (first second : Bool) (a b : Outcome) → exact_between operator (cond first None a) (cond second None b) ≡ cond (first || second || leaves_rest operator a b) None (value_between operator a b)
between_by-cut operator true second a b = exact_between-left operator (cond second None b)
between_by-cut operator false true a b = exact_between-right operator a
between_by-cut operator false false a b = refl

-- the exact value is the value, unless some quotient is not whole
pub exact_value_of-cut : (tree : Tree) → exact_value_of tree ≡ cond (has_cut_quotient tree) None (value_of tree)
exact_value_of-cut (Leaf bytes) = refl
exact_value_of-cut (Group inner) = exact_value_of-cut inner
exact_value_of-cut (Before prefix operand) =
    ap (value_before prefix) (exact_value_of-cut operand)
    ∙ before_by prefix (has_cut_quotient operand) (value_of operand)
exact_value_of-cut (Between operator left right) =
    (λ i. exact_between operator (exact_value_of-cut left i) (exact_value_of-cut right i))
    ∙ between_by-cut operator (has_cut_quotient left) (has_cut_quotient right) (value_of left) (value_of right)

-- what is made of exact values is the exact value
pub made_of-exact : (tree : Tree) → made_of (values_by Exact) tree ≡ exact_value_of tree
made_of-exact (Leaf bytes) = refl
made_of-exact (Group inner) = made_of-exact inner
made_of-exact (Before prefix operand) = ap (value_before prefix) (made_of-exact operand)
made_of-exact (Between operator left right) =
    (λ i. exact_between operator (made_of-exact left i) (made_of-exact right i))
