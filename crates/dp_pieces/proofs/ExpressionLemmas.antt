-- The value of an expression is a number, or has only bytes of its text.
use Rattle.std.proofs.Common.{◌≡◌, ℕ, zero, suc, ◌==◌, Bool, true, false, ◌||◌, List, [], ◌∷◌, Option, Some, None, take, refl, subst, unwrap_or, if◌then◌else◌, ℤ, neg_ℤ, nat_lt}
use borrow.Author.Tests.{eqb-true}
use Rattle.dp_expr.specs.declared.operator.Operator.{Operator}
use Rattle.dp_expr.specs.declared.operator.Operator.TheVariants.{Or, And, Equal, NotEqual, LessThan, AtMost, MoreThan, AtLeast, Plus, Minus, Times, Over, Remainder}
use Rattle.dp_expr.specs.declared.operator.Prefix.{Prefix}
use Rattle.dp_expr.specs.declared.operator.Prefix.TheVariants.{Negate, Not}
use Rattle.std.specs.List.{AllByRecursion}
use Rattle.std.specs.Ordering.{is_lt, is_eq, is_gt, is_le, is_ge, is_ne}
use Rattle.dp_expr.specs.Expression.{expression_value}
use Rattle.dp_expr.specs.Ascii.{exclamation, quote, percent, ampersand, opening_parenthesis, closing_parenthesis, asterisk, plus_sign, minus_sign, slash, less_sign, equals_sign, more_sign, bar}
use Rattle.dp_expr.specs.Numbers.{decimal_text, in_range, number_of}
use Rattle.dp_expr.specs.Tokens.{TokenOf, Operand, Sign, Bang, Opening, Closing, Stray, Cut, begin_token, begins_with, cut_at, is_blank, is_word_byte, longest, mark_cut, quoted_cut, quoted_size, single, tokens_after, tokens_of, word_size}
use Rattle.dp_expr.specs.Values.{Outcome, answer, both, either as either_text, is_false, negation, order_of, result_of, result_text, text_between, truth, value_before, value_between}
use Rattle.dp_expr.specs.Walk.{FrameOf, Left, Front, Paren, State, Wanting, Holding, Failed, closing, ending, entry, is_due, nesting, prefix_entry, reduction, step, values, walk, whole}
use Rattle.dp_expr.specs.Trees.{level_of, most_depth}
use Rattle.dp_pieces.specs.Bytes.{Bytes, Within, either, numeric}
use Rattle.dp_pieces.proofs.NumeralLemmas.{within-signed}
use Rattle.dp_pieces.proofs.WithinLemmas.{part-left, part-right, within-more, within-take}

-- the bytes of each operand are in the set
IsFrom : Bytes → TokenOf → Type 0
IsFrom set (Operand bytes) = Within set bytes
IsFrom set (Sign operator) = Unit {0}
IsFrom set Bang = Unit {0}
IsFrom set Opening = Unit {0}
IsFrom set Closing = Unit {0}
IsFrom set Stray = Unit {0}

AreFrom : Bytes → List TokenOf → Type 0
AreFrom set [] = Unit {0}
AreFrom set (token ∷ tokens) = IsFrom set token × AreFrom set tokens

-- the same for a cut
record IsCutFrom (set : Bytes) (cut : Cut) : Type 0 where
  token : IsFrom set cut.token

module _ (set : Bytes) where
  from-longest : (test : Bool) (operator : Operator) (short : TokenOf) → IsFrom set short → IsCutFrom set (longest test (Sign operator) short)
  unfolding IsFrom
  from-longest true operator short is = record { token = tt }
  from-longest false operator short is = record { token = is }

  from-sign : (test : Bool) (long short : Operator) → IsCutFrom set (longest test (Sign long) (Sign short))
  unfolding IsFrom
  from-sign test long short = from-longest test long (Sign short) tt

  -- the first of these whose test is passed
  chain : List (Bool × Cut) → Cut
  chain [] = single Stray
  chain (e ∷ es) = if e.0 then e.1 else chain es

  from-chain : (es : List (Bool × Cut)) → AllByRecursion (λ e. IsCutFrom set e.1) es → IsCutFrom set (chain es)
  unfolding IsFrom chain
  from-chain [] all = record { token = tt }
  from-chain (e ∷ es) all = by e.0 (from-chain es all.1)
    where
      by : (test : Bool) → IsCutFrom set (chain es) → IsCutFrom set (if test then e.1 else chain es)
      by true rest = all.0
      by false rest = rest

  from-token : (token : TokenOf) → IsFrom set token → IsCutFrom set (single token)
  from-token token is = record { token = is }

  from-mark : (b : ℕ) (bytes : List ℕ) → IsCutFrom set (mark_cut b bytes)
  unfolding mark_cut chain IsFrom
  from-mark b bytes = from-chain
      ((b == bar, longest (begins_with bar bytes) (Sign Or) (Sign Or)) ∷ (b == ampersand, longest (begins_with ampersand bytes) (Sign And) (Sign And))
      ∷ (b == equals_sign, longest (begins_with equals_sign bytes) (Sign Equal) (Sign Equal)) ∷ (b == exclamation, longest (begins_with equals_sign bytes) (Sign NotEqual) Bang)
      ∷ (b == less_sign, longest (begins_with equals_sign bytes) (Sign AtMost) (Sign LessThan)) ∷ (b == more_sign, longest (begins_with equals_sign bytes) (Sign AtLeast) (Sign MoreThan))
      ∷ (b == plus_sign, single (Sign Plus)) ∷ (b == minus_sign, single (Sign Minus)) ∷ (b == asterisk, single (Sign Times)) ∷ (b == slash, single (Sign Over))
      ∷ (b == percent, single (Sign Remainder)) ∷ (b == opening_parenthesis, single Opening) ∷ (b == closing_parenthesis, single Closing) ∷ []) (
        from-sign (begins_with bar bytes) Or Or,
        (
          from-sign (begins_with ampersand bytes) And And,
          (
            from-sign (begins_with equals_sign bytes) Equal Equal,
            (
              from-longest (begins_with equals_sign bytes) NotEqual Bang tt,
              (
                from-sign (begins_with equals_sign bytes) AtMost LessThan,
                (
                  from-sign (begins_with equals_sign bytes) AtLeast MoreThan,
                  (
                    from-token (Sign Plus) tt,
                    (
                      from-token (Sign Minus) tt,
                      (
                        from-token (Sign Times) tt,
                        (
                          from-token (Sign Over) tt,
                          (
                            from-token (Sign Remainder) tt,
                            (from-token Opening tt, (from-token Closing tt, tt)),
                          ),
                        ),
                      ),
                    ),
                  ),
                ),
              ),
            ),
          ),
        ),
      )

  from-quoted : (b : ℕ) (bytes : List ℕ) → b ≡ quote → set b ≡ true → Within set bytes → (size : Option ℕ) → IsFrom set (quoted_cut bytes size).token
  unfolding IsFrom
  from-quoted b bytes is here rest None = tt
  from-quoted b bytes is here rest (Some n) = (subst (λ x. set x ≡ true) is here, within-take set n bytes rest)

  from-cut : (b : ℕ) (bytes : List ℕ) → set b ≡ true → Within set bytes → IsFrom set (cut_at b bytes).token
  unfolding cut_at IsFrom
  from-cut b bytes here rest = by (b == quote) refl
    where
      word : (test : Bool) → IsFrom set (if test then record { token = Operand (b ∷ take (word_size bytes) bytes); more = word_size bytes } else mark_cut b bytes).token
      word true = (here, within-take set (word_size bytes) bytes rest)
      word false = (from-mark b bytes).token

      by : (test : Bool) → (b == quote) ≡ test
          → IsFrom set (if test then quoted_cut bytes (quoted_size bytes) else if is_word_byte b then record { token = Operand (b ∷ take (word_size bytes) bytes); more = word_size bytes } else mark_cut b bytes).token
      by true is = from-quoted b bytes (eqb-true b quote is) here rest (quoted_size bytes)
      by false is = word (is_word_byte b)

  from-tokens : (text : List ℕ) (n : ℕ) → Within set text → AreFrom set (tokens_after text n)
  unfolding tokens_after AreFrom
  from-tokens [] n is = tt
  from-tokens (b ∷ bytes) (suc n) is = from-tokens bytes n is.1
  from-tokens (b ∷ bytes) zero is = by (is_blank b) (from-tokens bytes 0 is.1) (from-cut b bytes is.0 is.1) (from-tokens bytes (cut_at b bytes).more is.1)
    where
      by : (blank : Bool) → AreFrom set (tokens_after bytes 0) → IsFrom set (cut_at b bytes).token → AreFrom set (tokens_after bytes (cut_at b bytes).more)
          → AreFrom set (begin_token blank (cut_at b bytes) (tokens_after bytes))
      by true rest first more = rest
      by false rest first more = (first, more)

-- the bytes of a value, if there is one
IsValued : Bytes → Outcome → Type 0
IsValued set None = Unit {0}
IsValued set (Some text) = Within set text

module _ (set : Bytes) (numbers : (byte : ℕ) → numeric byte ≡ true → set byte ≡ true) where
  valued-number : (number : Option ℤ) → IsValued set (decimal_text number)
  unfolding IsValued
  valued-number None = tt
  valued-number (Some z) = within-more numeric set numbers _ (within-signed z)

  within-truth : (test : Bool) → Within set (truth test)
  within-truth true = (numbers 49 refl, tt)
  within-truth false = (numbers 48 refl, tt)

  valued-result : (operator : Operator) (m n : Option ℤ) → IsValued set (result_text operator m n)
  unfolding IsValued
  valued-result operator None n = tt
  valued-result operator (Some m) None = tt
  valued-result operator (Some m) (Some n) = valued-number (result_of operator m n)

  within-either : (a b : List ℕ) → Within set a → Within set b → Within set (either_text a b)
  within-either a b x y = by (is_false a)
    where
      by : (test : Bool) → Within set (if test then b else a)
      by true = y
      by false = x

  within-both : (a b : List ℕ) → Within set a → Within set (both a b)
  within-both a b x = by (is_false a || is_false b)
    where
      by : (test : Bool) → Within set (if test then truth false else a)
      by true = within-truth false
      by false = x

  valued-text : (operator : Operator) (a b : List ℕ) → Within set a → Within set b → IsValued set (text_between operator a b)
  unfolding IsValued
  valued-text Or a b x y = within-either a b x y
  valued-text And a b x y = within-both a b x
  valued-text Equal a b x y = within-truth (is_eq (order_of a b))
  valued-text NotEqual a b x y = within-truth (is_ne (order_of a b))
  valued-text LessThan a b x y = within-truth (is_lt (order_of a b))
  valued-text AtMost a b x y = within-truth (is_le (order_of a b))
  valued-text MoreThan a b x y = within-truth (is_gt (order_of a b))
  valued-text AtLeast a b x y = within-truth (is_ge (order_of a b))
  valued-text Plus a b x y = valued-result Plus (number_of a) (number_of b)
  valued-text Minus a b x y = valued-result Minus (number_of a) (number_of b)
  valued-text Times a b x y = valued-result Times (number_of a) (number_of b)
  valued-text Over a b x y = valued-result Over (number_of a) (number_of b)
  valued-text Remainder a b x y = valued-result Remainder (number_of a) (number_of b)

  valued-between : (operator : Operator) (a b : Outcome) → IsValued set a → IsValued set b → IsValued set (value_between operator a b)
  unfolding IsValued
  valued-between operator None b x y = tt
  valued-between operator (Some a) None x y = tt
  valued-between operator (Some a) (Some b) x y = valued-text operator a b x y

  valued-negation : (number : Option ℤ) → IsValued set (negation number)
  unfolding IsValued
  valued-negation None = tt
  valued-negation (Some n) = valued-number (in_range (neg_ℤ n))

  valued-before : (prefix : Prefix) (a : Outcome) → IsValued set (value_before prefix a)
  unfolding IsValued
  valued-before prefix None = tt
  valued-before Negate (Some a) = valued-negation (number_of a)
  valued-before Not (Some a) = within-truth (is_false a)

  -- the frames that wait for an operand, and the state of a walk
  AreValued : List (FrameOf Outcome) → Type 0
  AreValued [] = Unit {0}
  AreValued (Left operator left ∷ frames) = IsValued set left × AreValued frames
  AreValued (Front prefix ∷ frames) = AreValued frames
  AreValued (Paren ∷ frames) = AreValued frames

  IsValuedState : State Outcome → Type 0
  IsValuedState (Wanting frames) = AreValued frames
  IsValuedState (Holding frames x) = AreValued frames × IsValued set x
  IsValuedState Failed = Unit {0}

  valued-reduction : (level : ℕ) (frames : List (FrameOf Outcome)) (x : Outcome) → AreValued frames → IsValued set x
      → AreValued (reduction values level frames x).frames × IsValued set (reduction values level frames x).value
  unfolding reduction AreValued
  valued-reduction level [] x all is = (tt, is)
  valued-reduction level (Left operator left ∷ frames) x all is =
      by (is_due level (Left operator left)) (valued-reduction level frames (value_between operator left x) all.1 (valued-between operator left x all.0 is))
    where
      by : (due : Bool) → AreValued (reduction values level frames (value_between operator left x)).frames × IsValued set (reduction values level frames (value_between operator left x)).value
          → AreValued (if due then reduction values level frames (value_between operator left x) else record { frames = Left operator left ∷ frames; value = x }).frames
          × IsValued set (if due then reduction values level frames (value_between operator left x) else record { frames = Left operator left ∷ frames; value = x }).value
      by true done = done
      by false done = (all, is)
  valued-reduction level (Front prefix ∷ frames) x all is = valued-reduction level frames (value_before prefix x) all (valued-before prefix x)
  valued-reduction level (Paren ∷ frames) x all is = (all, is)

  valued-entry : (frame : FrameOf Outcome) (frames : List (FrameOf Outcome)) → AreValued (frame ∷ frames) → IsValuedState (entry frame frames)
  unfolding IsValuedState
  valued-entry frame frames all = by (nat_lt (nesting frames) most_depth)
    where
      by : (test : Bool) → IsValuedState (if test then Wanting (frame ∷ frames) else Failed)
      by true = all
      by false = tt

  valued-prefix : (operator : Operator) (frames : List (FrameOf Outcome)) → AreValued frames → IsValuedState (prefix_entry operator frames)
  unfolding IsValuedState AreValued
  valued-prefix Or frames all = tt
  valued-prefix And frames all = tt
  valued-prefix Equal frames all = tt
  valued-prefix NotEqual frames all = tt
  valued-prefix LessThan frames all = tt
  valued-prefix AtMost frames all = tt
  valued-prefix MoreThan frames all = tt
  valued-prefix AtLeast frames all = tt
  valued-prefix Plus frames all = tt
  valued-prefix Minus frames all = valued-entry (Front Negate) frames all
  valued-prefix Times frames all = tt
  valued-prefix Over frames all = tt
  valued-prefix Remainder frames all = tt

  valued-closing : (frames : List (FrameOf Outcome)) (x : Outcome) → AreValued frames → IsValued set x → IsValuedState (closing values frames x)
  unfolding IsValuedState AreValued
  valued-closing [] x all is = tt
  valued-closing (Left operator left ∷ frames) x all is = tt
  valued-closing (Front prefix ∷ frames) x all is = tt
  valued-closing (Paren ∷ frames) x all is = (all, is)

  valued-step : (state : State Outcome) (token : TokenOf) → IsValuedState state → IsFrom set token → IsValuedState (step values state token)
  unfolding step IsValuedState AreValued IsFrom IsValued
  valued-step (Wanting frames) (Operand bytes) all from = (all, from)
  valued-step (Wanting frames) (Sign operator) all from = valued-prefix operator frames all
  valued-step (Wanting frames) Bang all from = valued-entry (Front Not) frames all
  valued-step (Wanting frames) Opening all from = valued-entry Paren frames all
  valued-step (Wanting frames) Closing all from = tt
  valued-step (Wanting frames) Stray all from = tt
  valued-step (Holding frames x) (Operand bytes) all from = tt
  valued-step (Holding frames x) (Sign operator) all from = let done = valued-reduction (level_of operator) frames x all.0 all.1 in (done.1, done.0)
  valued-step (Holding frames x) Bang all from = tt
  valued-step (Holding frames x) Opening all from = tt
  valued-step (Holding frames x) Closing all from =
      let done = valued-reduction 0 frames x all.0 all.1 in valued-closing (reduction values 0 frames x).frames (reduction values 0 frames x).value done.0 done.1
  valued-step (Holding frames x) Stray all from = tt
  valued-step Failed token all from = tt

  -- the result of a walk
  valued-whole : (frames : List (FrameOf Outcome)) (x : Outcome) → IsValued set x → Within set (answer (unwrap_or (whole frames x) None))
  unfolding IsValued
  valued-whole [] None is = tt
  valued-whole [] (Some text) is = is
  valued-whole (frame ∷ frames) x is = tt

  valued-walk : (tokens : List TokenOf) (state : State Outcome) → IsValuedState state → AreFrom set tokens → Within set (answer (unwrap_or (walk values state tokens) None))
  unfolding walk ending IsValuedState AreFrom
  valued-walk [] (Wanting frames) all from = tt
  valued-walk [] (Holding frames x) all from =
      valued-whole (reduction values 0 frames x).frames (reduction values 0 frames x).value (valued-reduction 0 frames x all.0 all.1).1
  valued-walk [] Failed all from = tt
  valued-walk (token ∷ tokens) state all from = valued-walk tokens (step values state token) (valued-step state token all from.0) from.1

-- the value has the bytes of the text, and those of a number
pub within-expression : (set : Bytes) (text : List ℕ) → Within set text → Within (either set numeric) (expression_value text)
unfolding expression_value tokens_of IsValuedState AreValued
within-expression set text is =
    valued-walk (either set numeric) (part-right set numeric) (tokens_of text) (Wanting []) tt
    (from-tokens (either set numeric) text 0 (within-more set (either set numeric) (part-left set numeric) text is))
