-- Marks that have a meaning only in Asterisk: one step of the search, and that no tree contains one.
use Rattle.std.proofs.Common.{◌≡◌, ℕ, zero, suc, ◌<◌, Bool, true, false, ◌||◌, List, [], ◌∷◌, length, drop, refl, ap, sym, subst, ◌∙◌, arith, eqb-true}
use Rattle.std.specs.Prelude.{◌==◌}
use Rattle.std.specs.List.{list_any}
use Rattle.std.proofs.lemmas.Bool.Decides.{nat_tests}
use Rattle.std.proofs.lemmas.List.Folds.{list_any-append}
use Rattle.dp_expr.specs.declared.operator.Prefix.TheVariants.{Negate, Not}
use Rattle.dp_expr.specs.Ascii.{exclamation, quote, percent, ampersand, opening_parenthesis, closing_parenthesis, asterisk, plus_sign, minus_sign, slash, colon, question_mark, tilde, less_sign, equals_sign, more_sign, bar}
use Rattle.dp_expr.specs.AsteriskReading.{is_foreign_mark, has_foreign_mark_after, has_foreign_mark}
use Rattle.dp_expr.specs.Tokens.{TokenOf, Operand, Sign, Bang, Opening, Closing, Stray, is_blank, is_word_byte, mark_cut, cut_at, begin_token, tokens_after, tokens_of}
use Rattle.dp_expr.specs.Trees.{Tree, Leaf, Group, Before, Between, IsTreeReading, spelling}

-- bytes of a token are skipped
has_foreign_mark_after-drop : (bytes : List ℕ) (n : ℕ) → has_foreign_mark_after bytes n ≡ has_foreign_mark_after (drop n bytes) 0
unfolding has_foreign_mark_after
has_foreign_mark_after-drop [] zero = refl
has_foreign_mark_after-drop [] (suc n) = refl
has_foreign_mark_after-drop (b ∷ bytes) zero = refl
has_foreign_mark_after-drop (b ∷ bytes) (suc n) = has_foreign_mark_after-drop bytes n

-- a byte is such a mark, or the rest after its token contains one
pub has_foreign_mark-cut : (b : ℕ) (bytes : List ℕ) → has_foreign_mark (b ∷ bytes) ≡ (is_foreign_mark b || has_foreign_mark (drop (cut_at b bytes).more bytes))
unfolding has_foreign_mark has_foreign_mark_after
has_foreign_mark-cut b bytes =
    ap (λ t. is_foreign_mark b || t) (has_foreign_mark_after-drop bytes (cut_at b bytes).more)

-- a text of length zero contains none
pub has_foreign_mark-empty : (text : List ℕ) → length text ≡ 0 → has_foreign_mark text ≡ false
unfolding has_foreign_mark has_foreign_mark_after
has_foreign_mark-empty [] e = refl
has_foreign_mark-empty (b ∷ bytes) e = absurd (omega arith)

-- a token that no expression contains
is_stray : TokenOf → Bool
is_stray (Operand bytes) = false
is_stray (Sign operator) = false
is_stray Bang = false
is_stray Opening = false
is_stray Closing = false
is_stray Stray = true

-- no other byte belongs to a blank
cut_at-blank : (b : ℕ) (bytes : List ℕ) → is_blank b ≡ true → (cut_at b bytes).more ≡ 0
unfolding cut_at is_word_byte mark_cut
cut_at-blank b bytes blank =
    let small : b < 33 = grind (arith, nat_tests) in
    let no_quote : (b == quote) ≡ false = grind (arith, nat_tests) in
    let no_bar : (b == bar) ≡ false = grind (arith, nat_tests) in
    let no_ampersand : (b == ampersand) ≡ false = grind (arith, nat_tests) in
    let no_equals : (b == equals_sign) ≡ false = grind (arith, nat_tests) in
    let no_exclamation : (b == exclamation) ≡ false = grind (arith, nat_tests) in
    let no_less : (b == less_sign) ≡ false = grind (arith, nat_tests) in
    let no_more : (b == more_sign) ≡ false = grind (arith, nat_tests) in
    let no_plus : (b == plus_sign) ≡ false = grind (arith, nat_tests) in
    let no_minus : (b == minus_sign) ≡ false = grind (arith, nat_tests) in
    let no_asterisk : (b == asterisk) ≡ false = grind (arith, nat_tests) in
    let no_slash : (b == slash) ≡ false = grind (arith, nat_tests) in
    let no_percent : (b == percent) ≡ false = grind (arith, nat_tests) in
    let no_opening : (b == opening_parenthesis) ≡ false = grind (arith, nat_tests) in
    let no_closing : (b == closing_parenthesis) ≡ false = grind (arith, nat_tests) in
    rw (blank, no_quote, no_bar, no_ampersand, no_equals, no_exclamation, no_less, no_more, no_plus, no_minus, no_asterisk, no_slash, no_percent, no_opening, no_closing)

-- such a mark is a stray
foreign_stray : (b : ℕ) (bytes : List ℕ) (rest : ℕ → List TokenOf) → is_foreign_mark b ≡ true → list_any is_stray (begin_token (is_blank b) (cut_at b bytes) rest) ≡ true
unfolding cut_at is_word_byte mark_cut is_stray
foreign_stray b bytes rest is = by (b == colon) (b == question_mark) (b == tilde) refl refl refl is
  where
    at : ℕ → Type 0
    at mark = list_any is_stray (begin_token (is_blank mark) (cut_at mark bytes) rest) ≡ true

    by : (first second third : Bool) → (b == colon) ≡ first → (b == question_mark) ≡ second → (b == tilde) ≡ third → (first || second || third) ≡ true → at b
    by true second third p q r one = subst at (sym (eqb-true b colon p)) refl
    by false true third p q r one = subst at (sym (eqb-true b question_mark q)) refl
    by false false true p q r one = subst at (sym (eqb-true b tilde r)) refl
    by false false false p q r one = cc

-- what is true stays true
or-true : (t : Bool) → (t || true) ≡ true
or-true true = refl
or-true false = refl

-- so a text that contains one has a stray
tokens_after-foreign : (bytes : List ℕ) (n : ℕ) → has_foreign_mark_after bytes n ≡ true → list_any is_stray (tokens_after bytes n) ≡ true
unfolding has_foreign_mark_after tokens_after
tokens_after-foreign [] n has = cc
tokens_after-foreign (b ∷ bytes) (suc n) has = tokens_after-foreign bytes n has
tokens_after-foreign (b ∷ bytes) zero has =
    by_foreign (is_foreign_mark b) refl (λ n. tokens_after-foreign bytes n) has
  where
    -- it is further on
    by_blank : (blank : Bool) → is_blank b ≡ blank → ((n : ℕ) → has_foreign_mark_after bytes n ≡ true → list_any is_stray (tokens_after bytes n) ≡ true) → has_foreign_mark_after bytes (cut_at b bytes).more ≡ true → list_any is_stray (begin_token blank (cut_at b bytes) (tokens_after bytes)) ≡ true
    by_blank true p after has =
        after 0 (ap (has_foreign_mark_after bytes) (sym (cut_at-blank b bytes p)) ∙ has)
    by_blank false p after has =
        ap (λ t. is_stray (cut_at b bytes).token || t) (after (cut_at b bytes).more has)
        ∙ or-true (is_stray (cut_at b bytes).token)

    -- it is here or further on
    by_foreign : (foreign : Bool) → is_foreign_mark b ≡ foreign → ((n : ℕ) → has_foreign_mark_after bytes n ≡ true → list_any is_stray (tokens_after bytes n) ≡ true) → (foreign || has_foreign_mark_after bytes (cut_at b bytes).more) ≡ true → list_any is_stray (begin_token (is_blank b) (cut_at b bytes) (tokens_after bytes)) ≡ true
    by_foreign true p after has = foreign_stray b bytes (tokens_after bytes) p
    by_foreign false p after has = by_blank (is_blank b) refl after has

-- no tree contains a stray
spelling-stray : (tree : Tree) → list_any is_stray (spelling tree) ≡ false
unfolding is_stray
spelling-stray (Leaf bytes) = refl
spelling-stray (Group inner) =
    list_any-append is_stray (spelling inner) (Closing ∷ []) ∙ ap (λ t. t || false) (spelling-stray inner)
spelling-stray (Before Negate operand) = spelling-stray operand
spelling-stray (Before Not operand) = spelling-stray operand
spelling-stray (Between operator left right) =
    list_any-append is_stray (spelling left) (Sign operator ∷ spelling right)
    ∙ (λ i. spelling-stray left i || spelling-stray right i)

-- a text that reads as a tree contains no such mark
pub has_foreign_mark-reading : (text : List ℕ) (tree : Tree) → IsTreeReading (tokens_of text) tree → has_foreign_mark text ≡ false
unfolding has_foreign_mark tokens_of
has_foreign_mark-reading text tree reading = by (has_foreign_mark_after text 0) refl
  where
    by : (has : Bool) → has_foreign_mark_after text 0 ≡ has → has ≡ false
    by false e = refl
    by true e =
        sym (tokens_after-foreign text 0 e) ∙ ap (list_any is_stray) reading.spelling ∙ spelling-stray tree
