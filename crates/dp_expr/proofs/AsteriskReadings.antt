-- The value of a text in Asterisk, given its tree and given two walks over values.
use Rattle.std.proofs.Common.{◌≡◌, ℕ, Bool, true, false, ◌||◌, cond, List, [], ◌∷◌, Option, Some, None, refl, ap, sym, ◌∙◌, option_map}
use Rattle.std.specs.Prelude.{is_some, unwrap_or}
use Rattle.std.specs.List.{list_any}
use Rattle.std.proofs.lemmas.List.Folds.{list_any-append}
use Rattle.dp_expr.specs.declared.division.Division.TheVariants.{Cut, Exact}
use Rattle.dp_expr.specs.declared.operator.Prefix.TheVariants.{Negate, Not}
use Rattle.dp_expr.specs.declared.reading.ExpressionReading.{ExpressionReading}
use Rattle.dp_expr.specs.declared.reading.ExpressionReading.TheVariants.{Value, Zero, Unknown}
use Rattle.dp_expr.specs.AsteriskReading.{is_fraction_token, is_unknown_text, outcome_reading, tree_reading, tokens_reading, asterisk_reading, has_fraction, reading_of, fault_reading, reading_without_tree}
use Rattle.dp_expr.specs.Quotients.{has_cut_quotient}
use Rattle.dp_expr.specs.Tokens.{TokenOf, Sign, Closing, tokens_of}
use Rattle.dp_expr.specs.Trees.{Tree, Leaf, Group, Before, Between, IsTreeReading, spelling}
use Rattle.dp_expr.specs.Values.{Outcome, value_of}
use Rattle.dp_expr.specs.Walk.{Wanting, walk, ending, trees, values}
use Rattle.dp_expr.specs.steps.Exact.{values_by}
use Rattle.dp_expr.proofs.Completeness.{made_of}
use Rattle.dp_expr.proofs.Making.{walk-trees}
use Rattle.dp_expr.proofs.MarksLemmas.{has_foreign_mark-reading}
use Rattle.dp_expr.proofs.QuotientsLemmas.{exact_value_of-cut, made_of-exact}
use Rattle.dp_expr.proofs.Readings.{walk-tree, walk-no_tree, made_of-values}

-- nothing more comes after the operand
or-false : (t : Bool) → (t || false) ≡ t
or-false true = refl
or-false false = refl

-- the fractions of a tree are those of its tokens
has_fraction-spelling : (tree : Tree) → list_any is_fraction_token (spelling tree) ≡ has_fraction tree
has_fraction-spelling (Leaf bytes) = or-false (has_fraction (Leaf bytes))
has_fraction-spelling (Group inner) =
    list_any-append is_fraction_token (spelling inner) (Closing ∷ [])
    ∙ or-false (list_any is_fraction_token (spelling inner)) ∙ has_fraction-spelling inner
has_fraction-spelling (Before Negate operand) = has_fraction-spelling operand
has_fraction-spelling (Before Not operand) = has_fraction-spelling operand
has_fraction-spelling (Between operator left right) =
    list_any-append is_fraction_token (spelling left) (Sign operator ∷ spelling right)
    ∙ (λ i. has_fraction-spelling left i || has_fraction-spelling right i)

-- the reading of tokens with a tree is that of the tree
tokens_reading-tree : (tokens : List TokenOf) (tree : Tree) → IsTreeReading tokens tree → tokens_reading tokens ≡ tree_reading (Some tree)
unfolding walk ending
tokens_reading-tree [] tree reading = let e = walk-tree [] tree reading in cc
tokens_reading-tree (token ∷ tokens) tree reading = ap tree_reading (walk-tree (token ∷ tokens) tree reading)

-- and so is that of a text
pub asterisk_reading-tree : (text : List ℕ) (tree : Tree) → IsTreeReading (tokens_of text) tree → asterisk_reading text ≡ reading_of tree
unfolding asterisk_reading
asterisk_reading-tree text tree reading =
    let fractions = ap (list_any is_fraction_token) reading.spelling ∙ has_fraction-spelling tree in
    (λ i. cond (has_foreign_mark-reading text tree reading i || fractions i) Unknown (tokens_reading-tree (tokens_of text) tree reading i))

-- tokens without a tree are a fault, unless there are none at all
tokens_reading-none : (tokens : List TokenOf) → ((tree : Tree) → ¬ (IsTreeReading tokens tree)) → tokens_reading tokens ≡ fault_reading tokens
tokens_reading-none [] none = refl
tokens_reading-none (token ∷ tokens) none = ap tree_reading (walk-no_tree (token ∷ tokens) none)

-- and so is a text
pub asterisk_reading-none : (text : List ℕ) → ((tree : Tree) → ¬ (IsTreeReading (tokens_of text) tree)) → asterisk_reading text ≡ reading_without_tree text
unfolding asterisk_reading
asterisk_reading-none text none =
    ap (λ r. cond (is_unknown_text text) Unknown r) (tokens_reading-none (tokens_of text) none)

-- a text whose reading is unknown whatever its value is
pub asterisk_reading-unknown : (text : List ℕ) → is_unknown_text text ≡ true → asterisk_reading text ≡ Unknown
unfolding asterisk_reading
asterisk_reading-unknown text unknown = ap (λ t. cond t Unknown (tokens_reading (tokens_of text))) unknown

-- a text of blanks
pub asterisk_reading-blank : (text : List ℕ) → is_unknown_text text ≡ false → tokens_of text ≡ [] → asterisk_reading text ≡ Value
unfolding asterisk_reading
asterisk_reading-blank text known none = (λ i. cond (known i) Unknown (tokens_reading (none i)))

-- any other text
pub asterisk_reading-tokens : (text : List ℕ) (token : TokenOf) (tokens : List TokenOf) → is_unknown_text text ≡ false → tokens_of text ≡ token ∷ tokens → asterisk_reading text ≡ tree_reading (walk trees (Wanting []) (tokens_of text))
unfolding asterisk_reading
asterisk_reading-tokens text token tokens known some =
    (λ i. cond (known i) Unknown (tokens_reading (some i)))
    ∙ sym (ap (λ l. tree_reading (walk trees (Wanting []) l)) some)

-- the reading, given whether there is an exact value and whether there is a value
abbrev pub reading_by : Bool → Bool → ExpressionReading
reading_by exact cut = cond exact Value (cond cut Unknown Zero)

-- the value counts if there is one even though each quotient must be whole
outcome_reading-by : (outcome : Outcome) (cut : Bool) → outcome_reading outcome cut ≡ reading_by (is_some (cond cut None outcome)) (is_some outcome)
outcome_reading-by None true = refl
outcome_reading-by None false = refl
outcome_reading-by (Some text) true = refl
outcome_reading-by (Some text) false = refl

-- the same for a tree, given what walks make of it
tree_reading-by : (o : Option Tree) → tree_reading o ≡ reading_by (is_some (unwrap_or (option_map (made_of (values_by Exact)) o) None)) (is_some (unwrap_or (option_map (made_of values) o) None))
tree_reading-by None = refl
tree_reading-by (Some tree) =
    outcome_reading-by (value_of tree) (has_cut_quotient tree)
    ∙ sym (λ i. reading_by (is_some ((made_of-exact tree ∙ exact_value_of-cut tree) i)) (is_some (made_of-values tree i)))

-- the same for tokens, given two walks
pub tree_reading-walk : (tokens : List TokenOf) → tree_reading (walk trees (Wanting []) tokens) ≡ reading_by (is_some (unwrap_or (walk (values_by Exact) (Wanting []) tokens) None)) (is_some (unwrap_or (walk (values_by Cut) (Wanting []) tokens) None))
tree_reading-walk tokens =
    tree_reading-by (walk trees (Wanting []) tokens)
    ∙ sym (λ i. reading_by (is_some (unwrap_or (walk-trees (values_by Exact) tokens i) None)) (is_some (unwrap_or (walk-trees values tokens i) None)))
