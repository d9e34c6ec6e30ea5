-- The line of an object has one line feed, at its end.
use Rattle.std.proofs.Common.{◌≡◌, ℕ, zero, suc, ◌+◌, ◌/◌, ◌%◌, Bool, true, false, cond, ◌==◌, nat_lt, List, [], ◌∷◌, ◌++◌, length, codes, decimal, refl, sym, ap, ◌∙◌, arith, append_assoc}
use Rattle.std.proofs.lemmas.Bool.{false≢true, ne_eqb}
use Rattle.std.specs.Char.{digit_char}
use Rattle.std.specs.Fmt.{digits, digits_onto, digit_glyph}
use Rattle.std.specs.List.{flat_map}
use Rattle.std.specs.Str.{is_utf8}
use Rattle.dp_json.specs.Lines.{is_line, line_count}
use Rattle.dp_json.specs.Objects.{Field, FieldValue, text, number, value_text, name_text, field_text, more_text, fields_text, opening, object_text}
use Rattle.dp_json.specs.Strings.{is_marked, is_plain, code_text, byte_text, bytes_text, string_text}

-- the text has no line feed
abbrev Clear : List ℕ → Type 0
Clear [] = Unit {0}
Clear (byte ∷ rest) = ((byte == 10) ≡ false) × Clear rest

clear_append : (xs ys : List ℕ) → Clear xs → Clear ys → Clear (xs ++ ys)
clear_append [] ys h k = k
clear_append (x ∷ xs) ys h k = (h.0, clear_append xs ys h.1 k)

clear_all : {X : Type 0} (f : X → List ℕ) → ((x : X) → Clear (f x)) → (xs : List X) → Clear (flat_map f xs)
clear_all f each [] = tt
clear_all f each (x ∷ xs) = clear_append (f x) (flat_map f xs) (each x) (clear_all f each xs)

-- a number that is not 10
other : (n : ℕ) → (n ≡ 10 → ⊥) → (n == 10) ≡ false
other n h = ne_eqb n 10 h

clear_digit : (d : ℕ) → (digit_char d == 10) ≡ false
clear_digit d = by (nat_lt d 10) where
  by : (t : Bool) → (cond t (48 + d) (87 + d) == 10) ≡ false
  by true = other (48 + d) (λ e. omega arith)
  by false = other (87 + d) (λ e. omega arith)

clear_code : (byte : ℕ) → Clear (code_text byte)
clear_code byte = (refl, (refl, (refl, (refl, (clear_digit (byte / 16), (clear_digit (byte % 16), tt))))))

clear_marked : (byte : ℕ) → is_marked byte ≡ true → Clear (92 ∷ byte ∷ [])
clear_marked byte is = (refl, (other byte (λ e. marked e), tt)) where
  marked : byte ≡ 10 → ⊥
  marked e = false≢true (ap is_marked (sym e) ∙ is)

clear_plain : (utf8 : Bool) (byte : ℕ) → is_plain utf8 byte ≡ true → Clear (byte ∷ [])
clear_plain utf8 byte is = (other byte (λ e. plain e), tt) where
  plain : byte ≡ 10 → ⊥
  plain e = false≢true (ap (is_plain utf8) (sym e) ∙ is)

clear_byte : (utf8 : Bool) (byte : ℕ) → Clear (byte_text utf8 byte)
unfolding byte_text
clear_byte utf8 byte = by (is_marked byte) (is_plain utf8 byte) (clear_marked byte) (clear_plain utf8 byte) where
  by : (m p : Bool) → (m ≡ true → Clear (92 ∷ byte ∷ [])) → (p ≡ true → Clear (byte ∷ [])) → Clear (cond m (92 ∷ byte ∷ []) (cond p (byte ∷ []) (code_text byte)))
  by true p marked plain = marked refl
  by false true marked plain = plain refl
  by false false marked plain = clear_code byte

clear_string : (bytes : List ℕ) → Clear (string_text bytes)
unfolding string_text
clear_string bytes = (refl, clear_append (bytes_text (is_utf8 bytes) bytes) (codes "\"") (clear_all (byte_text (is_utf8 bytes)) (clear_byte (is_utf8 bytes)) bytes) (refl, tt))

clear_glyph : (d : ℕ) → (digit_glyph false d == 10) ≡ false
clear_glyph d = clear_digit d

clear_either : (t : Bool) (xs ys : List ℕ) → Clear xs → Clear ys → Clear (cond t xs ys)
clear_either true xs ys h k = h
clear_either false xs ys h k = k

clear_onto : (k n : ℕ) (rest : List ℕ) → Clear rest → Clear (digits_onto k 10 false n rest)
clear_onto zero n rest h = h
clear_onto (suc k) n rest h =
    let one : Clear (digit_glyph false (n % 10) ∷ rest) = (clear_glyph (n % 10), h) in
    clear_either (n / 10 == 0) (digit_glyph false (n % 10) ∷ rest) _ one (clear_onto k (n / 10) (digit_glyph false (n % 10) ∷ rest) one)

clear_decimal : (n : ℕ) → Clear (decimal n)
unfolding digits
clear_decimal n = clear_onto 64 n [] tt

clear_value : (value : FieldValue) → Clear (value_text value)
clear_value (text bytes) = clear_string bytes
clear_value (number count) = clear_decimal count

clear_field : (field : Field) → Clear (field_text field)
unfolding field_text
clear_field field =
    clear_append (name_text field.name) (value_text field.value)
    (clear_append (string_text field.name) (codes ":") (clear_string field.name) (refl, tt)) (clear_value field.value)

clear_more : (field : Field) → Clear (more_text field)
unfolding more_text
clear_more field = (refl, clear_field field)

clear_opening : (field : Field) → Clear (opening field)
unfolding opening
clear_opening field = (refl, clear_field field)

-- the line of an object without its line feed
abbrev before_feed : List Field → List ℕ
before_feed [] = codes "{}"
before_feed (field ∷ fields) = opening field ++ fields_text fields ++ codes "}"

clear_before : (fields : List Field) → Clear (before_feed fields)
clear_before [] = (refl, (refl, tt))
clear_before (field ∷ fields) =
    clear_append (opening field ++ fields_text fields) (codes "}")
    (clear_append (opening field) (fields_text fields) (clear_opening field) (clear_all more_text clear_more fields)) (refl, tt)

with_feed : (fields : List Field) → object_text fields ≡ before_feed fields ++ 10 ∷ []
unfolding object_text
with_feed [] = refl
with_feed (field ∷ fields) = sym (append_assoc (opening field ++ fields_text fields) (codes "}") (10 ∷ []))

line_by : (byte : ℕ) (rest more : List ℕ) → (byte == 10) ≡ false → is_line (byte ∷ rest ++ more) ≡ is_line (rest ++ more)
line_by byte rest more e = rw e refl

line_ends : (xs : List ℕ) → Clear xs → is_line (xs ++ 10 ∷ []) ≡ true
line_ends [] h = refl
line_ends (x ∷ xs) h = line_by x xs (10 ∷ []) h.0 ∙ line_ends xs h.1

pub object_is_line : (fields : List Field) → is_line (object_text fields) ≡ true
object_is_line fields = ap is_line (with_feed fields) ∙ line_ends (before_feed fields) (clear_before fields)

count_by : (byte : ℕ) (rest : List ℕ) → (byte == 10) ≡ false → line_count (byte ∷ rest) ≡ line_count rest
count_by byte rest e = rw e refl

count_clear : (xs ys : List ℕ) → Clear xs → line_count (xs ++ 10 ∷ ys) ≡ 1 + line_count ys
count_clear [] ys h = refl
count_clear (x ∷ xs) ys h = count_by x (xs ++ 10 ∷ ys) h.0 ∙ count_clear xs ys h.1

pub count_object : (fields : List Field) (ys : List ℕ) → line_count (object_text fields ++ ys) ≡ 1 + line_count ys
count_object fields ys =
    ap (λ (t : List ℕ). line_count (t ++ ys)) (with_feed fields)
    ∙ (ap line_count (append_assoc (before_feed fields) (10 ∷ []) ys) ∙ count_clear (before_feed fields) ys (clear_before fields))

-- as many lines as elements, if each has the line of an object
pub count_all : {X : Type 0} (f : X → List ℕ) (object : X → List Field) → ((x : X) → f x ≡ object_text (object x))
    → (xs : List X) → line_count (flat_map f xs) ≡ length xs
count_all f object each [] = refl
count_all f object each (x ∷ xs) =
    ap (λ (t : List ℕ). line_count (t ++ flat_map f xs)) (each x)
    ∙ (count_object (object x) (flat_map f xs) ∙ (ap (λ n. 1 + n) (count_all f object each xs) ∙ omega arith))
