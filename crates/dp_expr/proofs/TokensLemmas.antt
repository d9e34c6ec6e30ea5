-- The tokens of a text, and the sizes of words and quoted operands, one step at a time.
use Rattle.std.proofs.Common.{◌≡◌, ◌≢◌, ℕ, zero, suc, ◌+◌, ◌<◌, ◌≤◌, true, false, cond, List, [], ◌∷◌, length, get_or, drop, Option, Some, None, refl, ap, sym, ◌∙◌, arith}
use Rattle.std.proofs.lemmas.List.{at_drop_more, at_drop_all}
use Rattle.std.proofs.lemmas.Bool.Decides.{nat_tests}
use Rattle.std.specs.Prelude.{◌==◌}
use Rattle.dp_expr.specs.Ascii.{quote}
use Rattle.dp_expr.specs.Tokens.{is_blank, is_word_byte, word_size, quoted_size, one_more, Cut, cut_at, begin_token, tokens_after, tokens_of}

-- n more, if there is a number
abbrev pub plus : ℕ → Option ℕ → Option ℕ
plus n None = None
plus n (Some m) = Some (n + m)

-- one more after n is the same after n + 1
plus-one_more : (n : ℕ) (o : Option ℕ) → plus n (one_more o) ≡ plus (n + 1) o
plus-one_more n None = refl
plus-one_more n (Some m) = ap Some (omega arith)

-- a byte of a word is counted
pub word_size-in : (text : List ℕ) (i : ℕ) → i < length text → is_word_byte (get_or text i 0) ≡ true → i + word_size (drop i text) ≡ (i + 1) + word_size (drop (i + 1) text)
unfolding word_size
word_size-in text i lt e =
    ap (λ n. i + n) (at_drop_more word_size text i 0 lt ∙ ap (λ t. cond t (suc (word_size (drop (i + 1) text))) 0) e) ∙ omega arith

-- the first other byte ends the word
pub word_size-end : (text : List ℕ) (i : ℕ) → i < length text → is_word_byte (get_or text i 0) ≡ false → word_size (drop i text) ≡ 0
unfolding word_size
word_size-end text i lt e =
    at_drop_more word_size text i 0 lt ∙ ap (λ t. cond t (suc (word_size (drop (i + 1) text))) 0) e

-- and so does the end of the text
pub word_size-all : (text : List ℕ) (i : ℕ) → length text ≤ i → word_size (drop i text) ≡ 0
unfolding word_size
word_size-all text i le = at_drop_all word_size text i le

-- a byte before the quote is counted
pub quoted_size-in : (text : List ℕ) (i : ℕ) → i < length text → get_or text i 0 ≢ quote → plus i (quoted_size (drop i text)) ≡ plus (i + 1) (quoted_size (drop (i + 1) text))
unfolding quoted_size
quoted_size-in text i lt other =
    let e : (get_or text i 0 == quote) ≡ false = grind (arith, nat_tests) in
    ap (plus i) (at_drop_more quoted_size text i 0 lt ∙ ap (λ t. cond t (Some 1) (one_more (quoted_size (drop (i + 1) text)))) e)
    ∙ plus-one_more i (quoted_size (drop (i + 1) text))

-- the first quote ends the operand
pub quoted_size-end : (text : List ℕ) (i : ℕ) → i < length text → get_or text i 0 ≡ quote → plus i (quoted_size (drop i text)) ≡ Some (i + 1)
unfolding quoted_size
quoted_size-end text i lt same =
    let e : (get_or text i 0 == quote) ≡ true = grind (arith, nat_tests) in
    ap (plus i) (at_drop_more quoted_size text i 0 lt ∙ ap (λ t. cond t (Some 1) (one_more (quoted_size (drop (i + 1) text)))) e)

-- without a quote the operand has no end
pub quoted_size-all : (text : List ℕ) (i : ℕ) → length text ≤ i → plus i (quoted_size (drop i text)) ≡ None
unfolding quoted_size
quoted_size-all text i le = ap (plus i) (at_drop_all quoted_size text i le)

-- bytes of a token are skipped
tokens_after-drop : (bytes : List ℕ) (n : ℕ) → tokens_after bytes n ≡ tokens_after (drop n bytes) 0
unfolding tokens_after
tokens_after-drop [] zero = refl
tokens_after-drop [] (suc n) = refl
tokens_after-drop (b ∷ bytes) zero = refl
tokens_after-drop (b ∷ bytes) (suc n) = tokens_after-drop bytes n

-- a blank gives no token
pub tokens_of-blank : (b : ℕ) (bytes : List ℕ) → is_blank b ≡ true → tokens_of (b ∷ bytes) ≡ tokens_of bytes
unfolding tokens_of tokens_after
tokens_of-blank b bytes blank =
    ap (λ t. begin_token t (cut_at b bytes) (tokens_after bytes)) blank

-- another byte begins a token, and the rest gives the others
pub tokens_of-cut : (b : ℕ) (bytes : List ℕ) (cut : Cut) → cut ≡ cut_at b bytes → is_blank b ≡ false → tokens_of (b ∷ bytes) ≡ cut.token ∷ tokens_of (drop cut.more bytes)
unfolding tokens_of tokens_after
tokens_of-cut b bytes cut is blank =
    ap (λ t. begin_token t (cut_at b bytes) (tokens_after bytes)) blank
    ∙ ap (λ (c : Cut). begin_token false c (tokens_after bytes)) (sym is)
    ∙ ap (λ l. cut.token ∷ l) (tokens_after-drop bytes cut.more)

-- a text of length zero has no tokens
pub tokens_of-empty : (text : List ℕ) → length text ≡ 0 → tokens_of text ≡ []
unfolding tokens_of tokens_after
tokens_of-empty [] e = refl
tokens_of-empty (b ∷ bytes) e = absurd (omega arith)
