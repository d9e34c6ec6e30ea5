-- The values of expressions in Asterisk, computed from the definitions themselves.
use Rattle.std.proofs.Common.{◌≡◌, [], ◌∷◌, refl, codes, map, replicate}
use Rattle.std.specs.Fmt.{digits}
use Rattle.dp_expr.specs.declared.reading.ExpressionReading.TheVariants.{Value, Zero, Unknown}
use Rattle.dp_expr.specs.AsteriskReading.{asterisk_reading, has_foreign_mark, has_foreign_mark_after, is_fraction}
use Rattle.dp_expr.specs.Numbers.{number_of, natural_of}
use Rattle.dp_expr.specs.Tokens.{tokens_of, tokens_after, cut_at, mark_cut, is_word_byte, word_size, quoted_size}
use Rattle.dp_expr.specs.Values.{is_false, order_of}
use Rattle.dp_expr.specs.Walk.{walk, step, reduction, ending, nesting}

-- marks of Asterisk outside quotes, including after a quote without an end
foreign_marks : map asterisk_reading (codes "a : b" ∷ codes "a =~ b" ∷ codes "~~a" ∷ codes "a?b" ∷ codes "\"a : b" ∷ []) ≡ replicate 5 Unknown
unfolding asterisk_reading has_foreign_mark has_foreign_mark_after tokens_of tokens_after cut_at mark_cut is_word_byte word_size quoted_size
foreign_marks = refl

-- fractions, including in an expression with a fault
fractions : map asterisk_reading (codes "1.5 + 1" ∷ codes "5." ∷ codes "-.5" ∷ codes "1.5 +" ∷ codes "0 / 2.0" ∷ []) ≡ replicate 5 Unknown
unfolding asterisk_reading has_foreign_mark has_foreign_mark_after is_fraction tokens_of tokens_after cut_at mark_cut is_word_byte word_size quoted_size
fractions = refl

-- quotients that are not whole, even if the value does not show them
cut_quotients : map asterisk_reading (codes "1/2" ∷ codes "-7/2" ∷ codes "7 / 2 * 0" ∷ codes "1 | 1/2" ∷ codes "!(1/2)" ∷ []) ≡ replicate 5 Unknown
unfolding asterisk_reading has_foreign_mark has_foreign_mark_after is_fraction tokens_of tokens_after cut_at mark_cut is_word_byte word_size quoted_size walk step reduction ending nesting number_of natural_of digits is_false
cut_quotients = refl

-- faults, including with a quotient that is not whole
faults : map asterisk_reading (codes "1/0" ∷ codes "a + 1" ∷ codes "1 +" ∷ codes "(1" ∷ codes "\"abc" ∷ codes "-9223372036854775808/-1" ∷ codes "a + 1/2" ∷ []) ≡ replicate 7 Zero
unfolding asterisk_reading has_foreign_mark has_foreign_mark_after is_fraction tokens_of tokens_after cut_at mark_cut is_word_byte word_size quoted_size walk step reduction ending nesting number_of natural_of digits is_false
faults = refl

-- values, of which the first two are empty
same_values : map asterisk_reading (codes "" ∷ codes "  " ∷ codes "4/2" ∷ codes "7 % 2" ∷ codes "\"a:b\" = \"a:b\"" ∷ codes "\".5\"" ∷ codes "1.2.3" ∷ codes "." ∷ codes "v1.5" ∷ []) ≡ replicate 9 Value
unfolding asterisk_reading has_foreign_mark has_foreign_mark_after is_fraction tokens_of tokens_after cut_at mark_cut is_word_byte word_size quoted_size walk step reduction ending nesting number_of natural_of digits is_false order_of
same_values = refl
