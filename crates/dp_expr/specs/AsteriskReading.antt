-- The value of an expression in Asterisk, compared with its value here.
use Rattle.std.specs.Prelude.{ℕ, zero, suc, Bool, true, false, ◌&&◌, ◌||◌, List, [], ◌∷◌, length, Option, Some, None, if◌then◌else◌, ◌==◌, nat_lt, count_by}
use Rattle.std.specs.Char.{is_ascii_digit}
use Rattle.std.specs.List.{list_all, list_any}
use Rattle.dp_expr.specs.declared.reading.ExpressionReading.{ExpressionReading}
use Rattle.dp_expr.specs.declared.reading.ExpressionReading.TheVariants.{Value, Zero, Unknown}
use Rattle.dp_expr.specs.Ascii.{colon, question_mark, tilde, point}
use Rattle.dp_expr.specs.Quotients.{has_cut_quotient}
use Rattle.dp_expr.specs.Tokens.{TokenOf, Operand, Sign, Bang, Opening, Closing, Stray, cut_at, tokens_of}
use Rattle.dp_expr.specs.Trees.{Tree, Leaf, Group, Before, Between}
use Rattle.dp_expr.specs.Values.{Outcome, value_of}
use Rattle.dp_expr.specs.Walk.{Wanting, walk, trees}

-- a mark that has a meaning only in Asterisk: `:`, `?`, and the `~` of `=~` and `~~`
abbrev pub is_foreign_mark : ℕ → Bool
is_foreign_mark b = b == colon || b == question_mark || b == tilde

-- a token begins with such a mark after the first n bytes, which belong to a token before
unfoldable pub has_foreign_mark_after : List ℕ → ℕ → Bool
has_foreign_mark_after [] n = false
has_foreign_mark_after (b ∷ bytes) zero = is_foreign_mark b || has_foreign_mark_after bytes (cut_at b bytes).more
has_foreign_mark_after (b ∷ bytes) (suc n) = has_foreign_mark_after bytes n

-- there is such a mark outside quotes
unfoldable pub has_foreign_mark : List ℕ → Bool
has_foreign_mark text = has_foreign_mark_after text 0

-- a byte of a fraction
abbrev pub is_fraction_byte : ℕ → Bool
is_fraction_byte b = b == point || is_ascii_digit b

-- one or more digits, and one point among, before or after them
unfoldable pub is_fraction : List ℕ → Bool
is_fraction bytes =
    list_all is_fraction_byte bytes && count_by (λ b. b == point) bytes == 1 && nat_lt 1 (length bytes)

-- an operand that is a fraction; a quoted operand is not
abbrev pub is_fraction_token : TokenOf → Bool
is_fraction_token (Operand bytes) = is_fraction bytes
is_fraction_token (Sign operator) = false
is_fraction_token Bang = false
is_fraction_token Opening = false
is_fraction_token Closing = false
is_fraction_token Stray = false

-- the reading is unknown whatever the value of the text is
abbrev pub is_unknown_text : List ℕ → Bool
is_unknown_text text = has_foreign_mark text || list_any is_fraction_token (tokens_of text)

-- the reading, given the value here and whether some quotient is not whole: a fault is `0`
abbrev pub outcome_reading : Outcome → Bool → ExpressionReading
outcome_reading None cut = Zero
outcome_reading (Some text) true = Unknown
outcome_reading (Some text) false = Value

-- the reading of a tree, if there is one; having none is a fault
abbrev pub tree_reading : Option Tree → ExpressionReading
tree_reading None = Zero
tree_reading (Some tree) = outcome_reading (value_of tree) (has_cut_quotient tree)

-- the reading of tokens; without tokens the expression is empty, and so is its value
abbrev pub tokens_reading : List TokenOf → ExpressionReading
tokens_reading [] = Value
tokens_reading (token ∷ tokens) = tree_reading (walk trees (Wanting []) (token ∷ tokens))

-- the value in Asterisk of the expression in a text
unfoldable pub asterisk_reading : List ℕ → ExpressionReading
asterisk_reading text = if is_unknown_text text then Unknown else tokens_reading (tokens_of text)

-- some operand of the tree is a fraction
abbrev pub has_fraction : Tree → Bool
has_fraction (Leaf bytes) = is_fraction bytes
has_fraction (Group inner) = has_fraction inner
has_fraction (Before prefix operand) = has_fraction operand
has_fraction (Between operator left right) = has_fraction left || has_fraction right

-- the same for a text that reads as the tree
abbrev pub reading_of : Tree → ExpressionReading
reading_of tree = if has_fraction tree then Unknown else tree_reading (Some tree)

-- tokens that are not an expression are a fault, unless there are none at all
abbrev pub fault_reading : List TokenOf → ExpressionReading
fault_reading [] = Value
fault_reading (token ∷ tokens) = Zero

-- the same for a text without a tree
abbrev pub reading_without_tree : List ℕ → ExpressionReading
reading_without_tree text = if is_unknown_text text then Unknown else fault_reading (tokens_of text)
