-- The tokens of a text.
use Rattle.std.specs.Prelude.{ℕ, zero, suc, Bool, true, false, ◌&&◌, not, List, [], ◌∷◌, take, Option, Some, None, if◌then◌else◌, ◌==◌, nat_lt, codes}
use Rattle.std.specs.List.{list_any}
use Rattle.dp_expr.specs.Ascii.{exclamation, quote, percent, ampersand, opening_parenthesis, closing_parenthesis, asterisk, plus_sign, minus_sign, slash, less_sign, equals_sign, more_sign, bar}
use Rattle.dp_expr.specs.declared.operator.Operator.{Operator}
use Rattle.dp_expr.specs.declared.operator.Operator.TheVariants.{Or, And, Equal, NotEqual, LessThan, AtMost, MoreThan, AtLeast, Plus, Minus, Times, Over, Remainder}

-- a token; `!` alone is a bang, and a byte that no expression contains is a stray
pub data TokenOf : Type 0 where
  Operand : (bytes : List ℕ) → TokenOf
  Sign : (operator : Operator) → TokenOf
  Bang : TokenOf
  Opening : TokenOf
  Closing : TokenOf
  Stray : TokenOf

-- a byte that separates tokens
abbrev pub is_blank : ℕ → Bool
is_blank b = nat_lt b 33

-- the bytes that end a word, apart from blanks
abbrev pub marks : List ℕ
marks = codes "\"|&=<>+-*/%!():?~"

-- a byte of a word
unfoldable pub is_word_byte : ℕ → Bool
is_word_byte b = not (is_blank b) && not (list_any (λ m. m == b) marks)

-- the number of bytes of a word at the start of the text
unfoldable pub word_size : List ℕ → ℕ
word_size [] = 0
word_size (b ∷ bytes) = if is_word_byte b then suc (word_size bytes) else 0

-- one more, if there is a number
abbrev pub one_more : Option ℕ → Option ℕ
one_more None = None
one_more (Some n) = Some (suc n)

-- the number of bytes of the text up to and including its first quote, if it has one
unfoldable pub quoted_size : List ℕ → Option ℕ
quoted_size [] = None
quoted_size (b ∷ bytes) = if b == quote then Some 1 else one_more (quoted_size bytes)

-- the text begins with that byte
abbrev pub begins_with : ℕ → List ℕ → Bool
begins_with c [] = false
begins_with c (b ∷ bytes) = b == c

-- a token, and the number of bytes after its first byte that belong to it
pub record Cut : Type 0 where
  pub token : TokenOf
  pub more : ℕ

-- a quoted operand, with both its quotes; a quote without an end is a stray
abbrev pub quoted_cut : List ℕ → Option ℕ → Cut
quoted_cut bytes None = record { token = Stray; more = 0 }
quoted_cut bytes (Some n) = record { token = Operand (quote ∷ take n bytes); more = n }

-- the long spelling, of one more byte, if it is there, else the short one
abbrev pub longest : Bool → TokenOf → TokenOf → Cut
longest true long short = record { token = long; more = 1 }
longest false long short = record { token = short; more = 0 }

-- a token with one byte
abbrev pub single : TokenOf → Cut
single token = record { token = token; more = 0 }

-- a mark other than a quote, before these bytes
unfoldable pub mark_cut : ℕ → List ℕ → Cut
mark_cut b bytes =
    if b == bar then longest (begins_with bar bytes) (Sign Or) (Sign Or)
    else if b == ampersand then longest (begins_with ampersand bytes) (Sign And) (Sign And)
    else if b == equals_sign then longest (begins_with equals_sign bytes) (Sign Equal) (Sign Equal)
    else if b == exclamation then longest (begins_with equals_sign bytes) (Sign NotEqual) Bang
    else if b == less_sign then longest (begins_with equals_sign bytes) (Sign AtMost) (Sign LessThan)
    else if b == more_sign then longest (begins_with equals_sign bytes) (Sign AtLeast) (Sign MoreThan)
    else if b == plus_sign then single (Sign Plus)
    else if b == minus_sign then single (Sign Minus)
    else if b == asterisk then single (Sign Times)
    else if b == slash then single (Sign Over)
    else if b == percent then single (Sign Remainder)
    else if b == opening_parenthesis then single Opening
    else if b == closing_parenthesis then single Closing
    else single Stray

-- the token that begins with a byte that is not a blank, before these bytes
unfoldable pub cut_at : ℕ → List ℕ → Cut
cut_at b bytes =
    if b == quote then quoted_cut bytes (quoted_size bytes)
    else if is_word_byte b
    then record { token = Operand (b ∷ take (word_size bytes) bytes); more = word_size bytes }
    else mark_cut b bytes

-- the tokens of a byte and the rest: a blank gives no token
abbrev pub begin_token : Bool → Cut → (ℕ → List TokenOf) → List TokenOf
begin_token true cut rest = rest 0
begin_token false cut rest = cut.token ∷ rest cut.more

-- the tokens after the first n bytes, which belong to a token before
unfoldable pub tokens_after : List ℕ → ℕ → List TokenOf
tokens_after [] n = []
tokens_after (b ∷ bytes) zero = begin_token (is_blank b) (cut_at b bytes) (tokens_after bytes)
tokens_after (b ∷ bytes) (suc n) = tokens_after bytes n

-- the tokens of a text, from the left
unfoldable pub tokens_of : List ℕ → List TokenOf
tokens_of text = tokens_after text 0
