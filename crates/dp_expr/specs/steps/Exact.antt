-- A step of the code: a walk over values in which a quotient that is not whole is a fault. It has a value if the tree
-- has one and no such quotient (`has_cut_quotient` of Quotients).
use Rattle.std.specs.Prelude.{Some, None, if◌then◌else◌}
use Rattle.dp_expr.specs.declared.division.Division.{Division}
use Rattle.dp_expr.specs.declared.division.Division.TheVariants.{Cut, Exact}
use Rattle.dp_expr.specs.declared.operator.Operator.{Operator}
use Rattle.dp_expr.specs.Quotients.{leaves_rest}
use Rattle.dp_expr.specs.Trees.{Tree, Leaf, Group, Before, Between}
use Rattle.dp_expr.specs.Values.{Outcome, value_before, value_between}
use Rattle.dp_expr.specs.Walk.{Making}

-- an operator between two values, where a quotient that is not whole is a fault
abbrev pub exact_between : Operator → Outcome → Outcome → Outcome
exact_between operator a b = if leaves_rest operator a b then None else value_between operator a b

-- the same with the given kind of division
abbrev pub between_by : Division → Operator → Outcome → Outcome → Outcome
between_by Cut = value_between
between_by Exact = exact_between

-- the making of values with a kind of division; for `Cut` it is `values` of Walk
abbrev pub values_by : Division → Making Outcome
values_by division =
    record { leaf = λ bytes. Some bytes; group = λ x. x; before = value_before; between = between_by division }

-- the value of a tree, where a quotient that is not whole is a fault
abbrev pub exact_value_of : Tree → Outcome
exact_value_of (Leaf bytes) = Some bytes
exact_value_of (Group inner) = exact_value_of inner
exact_value_of (Before prefix operand) = value_before prefix (exact_value_of operand)
exact_value_of (Between operator left right) = exact_between operator (exact_value_of left) (exact_value_of right)
