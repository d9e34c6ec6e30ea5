-- A reader of JSON has the fields of an object back from its line.
use Rattle.std.proofs.Common.{◌≡◌, ℕ, ◌/◌, ◌%◌, ◌<◌, max, Bool, true, false, cond, ◌&&◌, ◌||◌, ◌==◌, nat_le, nat_lt, List, [], ◌∷◌, ◌++◌, Option, Some, None, option_and_then, codes, decimal, inl, inr, refl, sym, ap, ap₂, ◌∙◌, subst, arith, append_assoc, append-nil}
use Rattle.std.proofs.lemmas.Bool.{agree_below, agree_below_at, and_parts, eqb-true, false≢true, le-ltb, leb-true, ltb-true, or_cases, or_parts}
use Rattle.std.proofs.lemmas.Str.{encode_ascii}
use Rattle.std.specs.Char.{digit_char, encode_utf8}
use Rattle.std.specs.List.{AllByRecursion, flat_map}
use Rattle.std.specs.Str.{is_utf8}
use Rattle.json.proofs.Printed.Decimals.{IsNumber-decimal}
use Rattle.json.proofs.Printed.Numbers.{lex-number}
use Rattle.json.proofs.Printed.Trees.{value-json_tokens}
use Rattle.json.specs.Json.{document, if_last, max_depth, object, value}
use Rattle.json.specs.Lex.{Lexeme, Mode, after_value, begins_colon, between, colon, comma, fresh, in_string, lex, lex_byte, operator, other, punctuate, space, string_token, token, tokens}
use Rattle.json.specs.Text.{after_high, code_unit, content, is_high_surrogate, is_low_surrogate, plain, prepend, short_escape}
use Rattle.json.specs.Token.{Token}
use Rattle.json.specs.Tree.{depth, json_tokens, members_depth, members_tokens}
use Rattle.json.specs.Word.{ends_word, is_operator, is_space}
use Rattle.dp_json.specs.Objects.{Field, FieldValue, text, number, value_text, name_text, field_text, more_text, fields_text, opening, object_text}
use Rattle.dp_json.specs.Reading.{IsField, IsText, IsValue, members_read, text_read, value_read}
use Rattle.dp_json.specs.Strings.{byte_text, bytes_text, code_text, is_marked, is_plain, string_text}

-- ---- bytes

-- what a reader has for a byte of a text, given whether it is UTF-8
abbrev byte_read : Bool → ℕ → List ℕ
byte_read utf8 byte = cond utf8 (byte ∷ []) (encode_utf8 byte)

-- what the reader of strings and the lexer make of a byte, before any text
record Passes (utf8 : Bool) (x : ℕ) : Type 0 where
  read : (r : List ℕ) → content plain (byte_text utf8 x ++ r) ≡ prepend (byte_read utf8 x) (content plain r)
  lexed : (r : List ℕ) → lex in_string (byte_text utf8 x ++ r) ≡ lex in_string r

quote_passes : (utf8 : Bool) → Passes utf8 34
unfolding byte_text content lex short_escape encode_utf8
quote_passes true = record { read = λ r. refl; lexed = λ r. refl }
quote_passes false = record { read = λ r. refl; lexed = λ r. refl }

backslash_passes : (utf8 : Bool) → Passes utf8 92
unfolding byte_text content lex short_escape encode_utf8
backslash_passes true = record { read = λ r. refl; lexed = λ r. refl }
backslash_passes false = record { read = λ r. refl; lexed = λ r. refl }

marked_passes : (utf8 : Bool) (x : ℕ) → is_marked x ≡ true → Passes utf8 x
marked_passes utf8 x is = elim (or_cases (x == 34) (x == 92) is) [
  | inl e ↦ subst (Passes utf8) (sym (eqb-true x 34 e)) (quote_passes utf8)
  | inr e ↦ subst (Passes utf8) (sym (eqb-true x 92 e)) (backslash_passes utf8)
]

-- any byte but `"` and `\` stays inside a string
stays_by : (o s : Bool) (x : ℕ) (r : List ℕ) (k : Mode → List Lexeme) → lex_byte in_string (cond o operator (cond s space other)) x r k ≡ k in_string
stays_by true s x r k = refl
stays_by false true x r k = refl
stays_by false false x r k = refl

stays : (x : ℕ) (r : List ℕ) → (x == 34) ≡ false → (x == 92) ≡ false → lex in_string (x ∷ r) ≡ lex in_string r
unfolding lex
stays x r quote_not slash_not = rw (quote_not, slash_not) (stays_by (is_operator x) (is_space x) x r (λ m. lex m r))

plain_read : (utf8 : Bool) (x : ℕ) → is_plain utf8 x ≡ true → byte_read utf8 x ≡ x ∷ []
plain_read true x is = refl
plain_read false x is = elim (or_cases (nat_lt x 127) false (and_parts (nat_le 32 x) (nat_lt x 127 || false) is).1) [
  | inl e ↦ encode_ascii x (omega (arith, ltb-true x 127 e))
  | inr e ↦ absurd (false≢true e)
]

plain_passes : (utf8 : Bool) (x : ℕ) → is_marked x ≡ false → is_plain utf8 x ≡ true → Passes utf8 x
unfolding byte_text content
plain_passes utf8 x unmarked is =
    let parts = or_parts (x == 34) (x == 92) unmarked in
    let low = leb-true 32 x (and_parts (nat_le 32 x) (nat_lt x 127 || (utf8 && nat_lt 127 x)) is).0 in
    let same : byte_text utf8 x ≡ x ∷ [] = λ i. cond (unmarked i) (92 ∷ x ∷ []) (cond (is i) (x ∷ []) (code_text x)) in
    record {
      read = λ r. rw (same, plain_read utf8 x is, parts.0, parts.1, le-ltb x 32 low);
      lexed = λ r. ap (λ (t : List ℕ). lex in_string (t ++ r)) same ∙ stays x r parts.0 parts.1;
    }

-- ---- bytes by their number

-- the digits of a byte
abbrev high : ℕ → ℕ
high x = digit_char (x / 16)

abbrev low : ℕ → ℕ
low x = digit_char (x % 16)

-- whether there is a number, and it is this one
abbrev is_that : ℕ → Option ℕ → Bool
is_that x None = false
is_that x (Some u) = u == x

that : (x : ℕ) (o : Option ℕ) → is_that x o ≡ true → o ≡ Some x
that x None is = absurd (false≢true is)
that x (Some u) is = ap Some (eqb-true u x is)

unit_is : (x : ℕ) → x < 256 → code_unit 48 48 (high x) (low x) ≡ Some x
unfolding code_unit
unit_is x small = that x (code_unit 48 48 (high x) (low x)) (agree_below_at (λ y. is_that y (code_unit 48 48 (high y) (low y))) (λ y. true) 256 x all small) where
  all : agree_below (λ y. is_that y (code_unit 48 48 (high y) (low y))) (λ y. true) 256 ≡ true
  all = refl

no_surrogate : (x : ℕ) → x < 256 → (is_high_surrogate x ≡ false) × (is_low_surrogate x ≡ false)
no_surrogate x small = (agree_below_at is_high_surrogate (λ y. false) 256 x refl small, agree_below_at is_low_surrogate (λ y. false) 256 x refl small)

high_stays : (x : ℕ) → x < 256 → (r : List ℕ) → lex in_string (high x ∷ r) ≡ lex in_string r
high_stays x small r =
    stays (high x) r (agree_below_at (λ y. high y == 34) (λ y. false) 256 x refl small) (agree_below_at (λ y. high y == 92) (λ y. false) 256 x refl small)

low_stays : (x : ℕ) → x < 256 → (r : List ℕ) → lex in_string (low x ∷ r) ≡ lex in_string r
low_stays x small r =
    stays (low x) r (agree_below_at (λ y. low y == 34) (λ y. false) 256 x refl small) (agree_below_at (λ y. low y == 92) (λ y. false) 256 x refl small)

-- a byte of UTF-8 that does not stand for itself is one of ASCII
code_read : (utf8 : Bool) (x : ℕ) → x < 256 → is_plain utf8 x ≡ false → byte_read utf8 x ≡ encode_utf8 x
code_read false x small is = refl
code_read true x small is =
    elim (or_cases (is_plain true x) (nat_lt x 128) (agree_below_at (λ y. is_plain true y || nat_lt y 128) (λ y. true) 256 x refl small)) [
      | inl e ↦ absurd (false≢true (sym is ∙ e))
      | inr e ↦ sym (encode_ascii x (ltb-true x 128 e))
    ]

-- what a reader makes of a number of a character
abbrev unit_content : List ℕ → ℕ → Option (List ℕ)
unit_content r u = cond (is_high_surrogate u) (content (after_high u) r) (cond (is_low_surrogate u) None (prepend (encode_utf8 u) (content plain r)))

code_content : (x : ℕ) → x < 256 → (r : List ℕ) → content plain (code_text x ++ r) ≡ prepend (encode_utf8 x) (content plain r)
unfolding content
code_content x small r =
    let none = no_surrogate x small in
    ap (option_and_then (unit_content r)) (unit_is x small)
    ∙ (λ i. cond (none.0 i) (content (after_high x) r) (cond (none.1 i) None (prepend (encode_utf8 x) (content plain r))))

code_lexed : (x : ℕ) → x < 256 → (r : List ℕ) → lex in_string (code_text x ++ r) ≡ lex in_string r
unfolding lex
code_lexed x small r = high_stays x small (low x ∷ r) ∙ low_stays x small r

code_passes : (utf8 : Bool) (x : ℕ) → x < 256 → is_marked x ≡ false → is_plain utf8 x ≡ false → Passes utf8 x
unfolding byte_text
code_passes utf8 x small unmarked is =
    let same : byte_text utf8 x ≡ code_text x = λ i. cond (unmarked i) (92 ∷ x ∷ []) (cond (is i) (x ∷ []) (code_text x)) in
    record {
      read = λ r.
          ap (λ (t : List ℕ). content plain (t ++ r)) same
          ∙ (code_content x small r ∙ ap (λ (t : List ℕ). prepend t (content plain r)) (sym (code_read utf8 x small is)));
      lexed = λ r. ap (λ (t : List ℕ). lex in_string (t ++ r)) same ∙ code_lexed x small r;
    }

passes : (utf8 : Bool) (x : ℕ) → x < 256 → Passes utf8 x
passes utf8 x small = by (is_marked x) (is_plain utf8 x) refl refl where
  by : (m p : Bool) → is_marked x ≡ m → is_plain utf8 x ≡ p → Passes utf8 x
  by true p marked is = marked_passes utf8 x marked
  by false true marked is = plain_passes utf8 x marked is
  by false false marked is = code_passes utf8 x small marked is

-- ---- strings

content-bytes : (utf8 : Bool) (s r : List ℕ) → IsText s → content plain (bytes_text utf8 s ++ 34 ∷ r) ≡ Some (flat_map (byte_read utf8) s)
unfolding content
content-bytes utf8 [] r h = refl
content-bytes utf8 (x ∷ s) r h =
    ap (content plain) (append_assoc (byte_text utf8 x) (bytes_text utf8 s) (34 ∷ r))
    ∙ ((passes utf8 x h.0).read (bytes_text utf8 s ++ 34 ∷ r) ∙ ap (prepend (byte_read utf8 x)) (content-bytes utf8 s r h.1))

lex-bytes : (utf8 : Bool) (s r : List ℕ) → IsText s → lex in_string (bytes_text utf8 s ++ 34 ∷ r) ≡ lex between r
unfolding lex
lex-bytes utf8 [] r h = refl
lex-bytes utf8 (x ∷ s) r h =
    ap (lex in_string) (append_assoc (byte_text utf8 x) (bytes_text utf8 s) (34 ∷ r))
    ∙ ((passes utf8 x h.0).lexed (bytes_text utf8 s ++ 34 ∷ r) ∙ lex-bytes utf8 s r h.1)

bytes_read : (utf8 : Bool) (s : List ℕ) → flat_map (byte_read utf8) s ≡ cond utf8 s (flat_map encode_utf8 s)
bytes_read true [] = refl
bytes_read true (x ∷ s) = ap (λ (t : List ℕ). x ∷ t) (bytes_read true s)
bytes_read false [] = refl
bytes_read false (x ∷ s) = ap (λ (t : List ℕ). encode_utf8 x ++ t) (bytes_read false s)

lex-string : (s r : List ℕ) → IsText s → lex between (string_text s ++ r) ≡ token (Token.string (text_read s)) ∷ lex between r
unfolding lex string_text
lex-string s r h =
    let utf8 = is_utf8 s in
    ap (λ l. lex between (34 ∷ l)) (append_assoc (bytes_text utf8 s) (34 ∷ []) r)
    ∙ ap₂ (λ o l. token (string_token o) ∷ l) (content-bytes utf8 s r h ∙ ap Some (bytes_read utf8 s)) (lex-bytes utf8 s r h)

-- ---- fields

-- the token of a value
abbrev value_token : FieldValue → Token
value_token (text bytes) = Token.string (text_read bytes)
value_token (number count) = Token.number (decimal count)

lex-value : (v : FieldValue) (r : List ℕ) → IsValue v → ends_word r ≡ true → lex between (value_text v ++ r) ≡ token (value_token v) ∷ lex between r
lex-value (text bytes) r h ended = lex-string bytes r h
lex-value (number count) r h ended = lex-number (decimal count) r (IsNumber-decimal count h) ended

-- a field before the lexemes of what follows
abbrev with_field : Field → List Lexeme → List Lexeme
with_field field rest = token (Token.string (text_read field.name)) ∷ colon ∷ token (value_token field.value) ∷ rest

lex-name : (name r : List ℕ) → IsText name → lex between (name_text name ++ r) ≡ token (Token.string (text_read name)) ∷ colon ∷ lex between r
unfolding lex
lex-name name r h = ap (lex between) (append_assoc (string_text name) (codes ":") r) ∙ lex-string name (58 ∷ r) h

lex-field : (field : Field) (r : List ℕ) → IsField field → ends_word r ≡ true → lex between (field_text field ++ r) ≡ with_field field (lex between r)
unfolding field_text
lex-field field r h ended =
    ap (lex between) (append_assoc (name_text field.name) (value_text field.value) r)
    ∙ (lex-name field.name (value_text field.value ++ r) h.0
    ∙ ap (λ l. token (Token.string (text_read field.name)) ∷ colon ∷ l) (lex-value field.value r h.1 ended))

-- the rest of a line after its first field
abbrev rest_text : List Field → List ℕ
rest_text fields = fields_text fields ++ codes "}\n"

abbrev rest_lexemes : List Field → List Lexeme
rest_lexemes [] = token Token.end_object ∷ []
rest_lexemes (field ∷ fields) = comma ∷ with_field field (rest_lexemes fields)

rest_ends : (fields : List Field) → ends_word (rest_text fields) ≡ true
unfolding more_text
rest_ends [] = refl
rest_ends (field ∷ fields) = refl

lex-more : (field : Field) (r : List ℕ) → IsField field → ends_word r ≡ true → lex between (more_text field ++ r) ≡ comma ∷ with_field field (lex between r)
unfolding lex more_text
lex-more field r h ended = ap (λ l. comma ∷ l) (lex-field field r h ended)

lex-rest : (fields : List Field) → AllByRecursion IsField fields → lex between (rest_text fields) ≡ rest_lexemes fields
unfolding lex
lex-rest [] h = refl
lex-rest (field ∷ fields) h =
    ap (lex between) (append_assoc (more_text field) (fields_text fields) (codes "}\n"))
    ∙ (lex-more field (rest_text fields) h.0 (rest_ends fields) ∙ ap (λ l. comma ∷ with_field field l) (lex-rest fields h.1))

lex-opening : (field : Field) (r : List ℕ) → IsField field → ends_word r ≡ true → lex between (opening field ++ r) ≡ token Token.begin_object ∷ with_field field (lex between r)
unfolding lex opening
lex-opening field r h ended = ap (λ l. token Token.begin_object ∷ l) (lex-field field r h ended)

-- ---- tokens

no_colon : (fields : List Field) → begins_colon (rest_lexemes fields) ≡ false
no_colon [] = refl
no_colon (field ∷ fields) = refl

value_placed : (v : FieldValue) (fields : List Field) → punctuate fresh (token (value_token v) ∷ rest_lexemes fields) ≡ value_token v ∷ punctuate after_value (rest_lexemes fields)
unfolding punctuate
value_placed (text bytes) fields = rw (no_colon fields) refl
value_placed (number count) fields = refl

value_tokens : (v : FieldValue) (ts : List Token) → value_token v ∷ ts ≡ json_tokens (value_read v) ++ ts
value_tokens (text bytes) ts = refl
value_tokens (number count) ts = refl

rest_placed : (fields : List Field) → punctuate after_value (rest_lexemes fields) ≡ members_tokens (members_read fields)
unfolding punctuate
rest_placed [] = refl
rest_placed (field ∷ fields) =
    ap (λ ts. Token.key (text_read field.name) ∷ ts)
    (value_placed field.value fields ∙ (value_tokens field.value _ ∙ ap (λ ts. json_tokens (value_read field.value) ++ ts) (rest_placed fields)))

first_placed : (field : Field) (fields : List Field) → punctuate fresh (with_field field (rest_lexemes fields)) ≡ members_tokens (members_read (field ∷ fields))
unfolding punctuate
first_placed field fields =
    ap (λ ts. Token.key (text_read field.name) ∷ ts)
    (value_placed field.value fields ∙ (value_tokens field.value _ ∙ ap (λ ts. json_tokens (value_read field.value) ++ ts) (rest_placed fields)))

tokens-object : (fields : List Field) → AllByRecursion IsField fields → tokens (object_text fields) ≡ json_tokens (object (members_read fields))
unfolding lex punctuate object_text
tokens-object [] h = refl
tokens-object (field ∷ fields) h =
    ap tokens (append_assoc (opening field) (fields_text fields) (codes "}\n"))
    ∙ (ap (punctuate fresh) (lex-opening field (rest_text fields) h.0 (rest_ends fields) ∙ ap (λ l. token Token.begin_object ∷ with_field field l) (lex-rest fields h.1))
    ∙ ap (λ ts. Token.begin_object ∷ ts) (first_placed field fields))

-- ---- objects

value_flat : (v : FieldValue) → depth (value_read v) ≡ 0
value_flat (text bytes) = refl
value_flat (number count) = refl

flat : (fields : List Field) → members_depth (members_read fields) ≡ 0
flat [] = refl
flat (field ∷ fields) = ap₂ max (value_flat field.value) (flat fields)

pub object_read : (fields : List Field) → AllByRecursion IsField fields → document (object_text fields) ≡ Some (object (members_read fields))
object_read fields h =
    let whole = object (members_read fields) in
    ap (option_and_then (λ p. if_last p.0 p.1))
    (ap (value max_depth) (tokens-object fields h ∙ sym (append-nil (json_tokens whole))) ∙ value-json_tokens whole max_depth [] (omega (arith, flat fields)))
