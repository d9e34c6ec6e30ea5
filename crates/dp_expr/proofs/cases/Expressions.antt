-- Expressions, computed from the definitions themselves.
use Rattle.std.proofs.Common.{◌≡◌, ◌≤◌, ℕ, zero, suc, [], ◌∷◌, Some, None, refl, codes, lit≤, arith}
use Rattle.dp_expr.specs.declared.operator.Operator.TheVariants.{Or, And, Equal, NotEqual, AtMost, MoreThan, Plus, Minus, Times, Over, Remainder}
use Rattle.dp_expr.specs.declared.operator.Prefix.TheVariants.{Negate}
use Rattle.dp_expr.specs.Tokens.{Operand, Sign, Opening, Closing, Stray, tokens_of, tokens_after, cut_at, mark_cut, is_word_byte, word_size, quoted_size}
use Rattle.dp_expr.specs.Trees.{Tree, Leaf, Group, Before, Between, IsTree, IsGrouped, expression_level, depth_of, most_depth}
use Rattle.std.specs.Fmt.{digits}
use Rattle.dp_expr.specs.Numbers.{number_of, natural_of}
use Rattle.dp_expr.specs.Values.{value_of, is_false, order_of}

-- the longest operator first, and two adjacent ones are two
tokens_longest : tokens_of (codes "a<=b=>c!==d") ≡ Operand (codes "a") ∷ Sign AtMost ∷ Operand (codes "b") ∷ Sign Equal ∷ Sign MoreThan ∷ Operand (codes "c") ∷ Sign NotEqual ∷ Sign Equal ∷ Operand (codes "d") ∷ []
unfolding tokens_of tokens_after cut_at mark_cut is_word_byte word_size quoted_size
tokens_longest = refl

-- doubled spellings, where three bars are two operators
tokens_doubled : tokens_of (codes "a|||b && c==d") ≡ Operand (codes "a") ∷ Sign Or ∷ Sign Or ∷ Operand (codes "b") ∷ Sign And ∷ Operand (codes "c") ∷ Sign Equal ∷ Operand (codes "d") ∷ []
unfolding tokens_of tokens_after cut_at mark_cut is_word_byte word_size quoted_size
tokens_doubled = refl

-- quoted operands, and strays
tokens_quoted : tokens_of (codes "\"a b\"x(:) \"") ≡ Operand (codes "\"a b\"") ∷ Operand (codes "x") ∷ Opening ∷ Stray ∷ Closing ∷ Stray ∷ []
unfolding tokens_of tokens_after cut_at mark_cut is_word_byte word_size quoted_size
tokens_quoted = refl

-- `-7 / 2`
seven_halves : Tree
seven_halves = Between Over (Before Negate (Leaf (codes "7"))) (Leaf (codes "2"))

-- the minus binds tighter
seven_halves-reads : IsTree (codes "-7 / 2") seven_halves
unfolding tokens_of tokens_after cut_at mark_cut is_word_byte word_size quoted_size seven_halves
seven_halves-reads = record { spelling = refl; grouped = (lit≤ tt, tt, tt); shallow = lit≤ tt }

-- truncated toward zero
seven_halves-value : value_of seven_halves ≡ Some (codes "-3")
unfolding seven_halves number_of natural_of digits is_false
seven_halves-value = refl

-- `(0 - 9223372036854775807 - 1) % -1`, which groups to the left
least_remainder : Tree
least_remainder =
    Between Remainder
    (Group (Between Minus (Between Minus (Leaf (codes "0")) (Leaf (codes "9223372036854775807"))) (Leaf (codes "1"))))
    (Before Negate (Leaf (codes "1")))

-- differences group to the left
least_remainder-reads : IsTree (codes "(0 - 9223372036854775807 - 1) % -1") least_remainder
unfolding tokens_of tokens_after cut_at mark_cut is_word_byte word_size quoted_size least_remainder
least_remainder-reads =
    record { spelling = refl; grouped = (lit≤ tt, (lit≤ tt, (lit≤ tt, tt, tt), tt), tt); shallow = lit≤ tt }

-- the least number by -1
least_remainder-value : value_of least_remainder ≡ Some (codes "0")
unfolding least_remainder number_of natural_of digits is_false
least_remainder-value = refl

-- `-9223372036854775808`, a minus before a text that is not a number
least_written : value_of (Before Negate (Leaf (codes "9223372036854775808"))) ≡ None
unfolding number_of natural_of
least_written = refl

-- `9223372036854775807 + 1`
too_large : value_of (Between Plus (Leaf (codes "9223372036854775807")) (Leaf (codes "1"))) ≡ None
unfolding number_of natural_of
too_large = refl

-- `1 / 0`
over_zero : value_of (Between Over (Leaf (codes "1")) (Leaf (codes "0"))) ≡ None
unfolding number_of natural_of
over_zero = refl

-- `"5" = 5`
quoted_number : value_of (Between Equal (Leaf (codes "\"5\"")) (Leaf (codes "5"))) ≡ Some (codes "0")
unfolding number_of natural_of order_of
quoted_number = refl

-- `05 = 5` and `00 | x`
leading_zeros : value_of (Between And (Between Equal (Leaf (codes "05")) (Leaf (codes "5"))) (Between Or (Leaf (codes "00")) (Leaf (codes "x")))) ≡ Some (codes "1")
unfolding number_of natural_of order_of is_false
leading_zeros = refl

-- `"" | x`
empty_quotes : value_of (Between Or (Leaf (codes "\"\"")) (Leaf (codes "x"))) ≡ Some (codes "\"\"")
unfolding number_of natural_of is_false
empty_quotes = refl

-- `1 | a + 1`, with a fault on the side that is not chosen
fault_not_chosen : value_of (Between Or (Leaf (codes "1")) (Between Plus (Leaf (codes "a")) (Leaf (codes "1")))) ≡ None
unfolding number_of natural_of is_false
fault_not_chosen = refl

-- `-7 % 2` and `7 % -2`
remainder_signs : value_of (Between Remainder (Before Negate (Leaf (codes "7"))) (Leaf (codes "2"))) ≡ Some (codes "-1")
unfolding number_of natural_of digits is_false
remainder_signs = refl

-- the same with a negative right side
remainder_of_positive : value_of (Between Remainder (Leaf (codes "7")) (Before Negate (Leaf (codes "2")))) ≡ Some (codes "1")
unfolding number_of natural_of digits is_false
remainder_of_positive = refl

-- `10 - 3 - 2` reads to the left
differences : Tree
differences = Between Minus (Between Minus (Leaf (codes "10")) (Leaf (codes "3"))) (Leaf (codes "2"))

differences-reads : IsTree (codes "10 - 3 - 2") differences
unfolding tokens_of tokens_after cut_at mark_cut is_word_byte word_size quoted_size differences
differences-reads =
    record { spelling = refl; grouped = (lit≤ tt, (lit≤ tt, tt, tt), tt); shallow = lit≤ tt }

-- and not to the right
differences-to_the_right : (a b c : Tree) → ¬ (IsGrouped expression_level (Between Minus a (Between Minus b c)))
differences-to_the_right a b c = λ grouped. omega (arith, grouped.2.0)

-- `1 + 2 * 3` is not a product
no_product : (a b c : Tree) → ¬ (IsGrouped expression_level (Between Times (Between Plus a b) c))
no_product a b c = λ grouped. omega (arith, grouped.1.0)

-- a tree in this many parentheses
in_parentheses : ℕ → Tree
in_parentheses zero = Leaf (codes "1")
in_parentheses (suc n) = Group (in_parentheses n)

-- 32 are not too deep, and 33 are
deep : depth_of (in_parentheses 32) ≤ most_depth
unfolding in_parentheses
deep = lit≤ tt

too_deep : ¬ (depth_of (in_parentheses 33) ≤ most_depth)
unfolding in_parentheses
too_deep = λ shallow. omega arith

-- `é`, a word of high bytes
high_bytes : tokens_of (195 ∷ 169 ∷ []) ≡ Operand (195 ∷ 169 ∷ []) ∷ []
unfolding tokens_of tokens_after cut_at mark_cut is_word_byte word_size quoted_size
high_bytes = refl

-- a tab, a line feed and a zero are blanks
blanks : tokens_of (9 ∷ 97 ∷ 10 ∷ 0 ∷ 98 ∷ []) ≡ Operand (codes "a") ∷ Operand (codes "b") ∷ []
unfolding tokens_of tokens_after cut_at mark_cut is_word_byte word_size quoted_size
blanks = refl
