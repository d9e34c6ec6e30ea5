-- The line of an object is UTF-8.
use Rattle.std.proofs.Common.{◌≡◌, ℕ, suc, ◌<◌, ◌≤◌, Bool, true, false, cond, ◌||◌, ◌==◌, nat_le, nat_lt, List, [], ◌∷◌, ◌++◌, length, get_or, IsUtf8, codes, decimal, inl, inr, refl, sym, ap, ap₂, ◌∙◌, subst, arith, append_assoc, append-nil}
use Rattle.std.proofs.lemmas.Bool.{agree_below_at, and_from, and_parts, cases_lt, le-leb, lt-ltb, ne_eqb, or_from, or_right}
use Rattle.std.proofs.lemmas.Fmt.{IsAscii-decimal}
use Rattle.std.proofs.lemmas.Str.{IsUtf8-append, IsUtf8-encode, IsUtf8-from_ascii, IsUtf8-from_is_utf8, IsUtf8-nil, encode_ascii, inside_one}
use Rattle.std.specs.List.{AllByRecursion}
use Rattle.std.specs.Str.{is_utf8}
use Rattle.json.proofs.Printed.Utf8.{IsUtf8-are_ascii, are_ascii}
use lib.Utf8.{encode, encodes, scalar, scalars}
use Rattle.dp_json.specs.Objects.{Field, FieldValue, text, number, value_text, field_text, more_text, fields_text, opening, object_text}
use Rattle.dp_json.specs.Reading.{IsField, IsText, IsValue}
use Rattle.dp_json.specs.Strings.{byte_text, bytes_text, code_text, is_marked, is_plain, string_text}

-- bytes of ASCII, and all bytes of a text that is not UTF-8, are written in ASCII
ascii_byte : (x : ℕ) → x < 128 → IsUtf8 (byte_text true x)
unfolding byte_text
ascii_byte x small = IsUtf8-are_ascii (byte_text true x) (agree_below_at (λ y. are_ascii (byte_text true y)) (λ y. true) 128 x refl small)

latin_byte : (x : ℕ) → x < 256 → IsUtf8 (byte_text false x)
unfolding byte_text
latin_byte x small = IsUtf8-are_ascii (byte_text false x) (agree_below_at (λ y. are_ascii (byte_text false y)) (λ y. true) 256 x refl small)

latin_bytes : (s : List ℕ) → IsText s → IsUtf8 (bytes_text false s)
latin_bytes [] h = IsUtf8-nil
latin_bytes (x ∷ s) h = IsUtf8-append (byte_text false x) (bytes_text false s) (latin_byte x h.0) (latin_bytes s h.1)

-- bytes behind ASCII stand for themselves in UTF-8
high_byte : (x : ℕ) → 128 ≤ x → byte_text true x ≡ x ∷ []
unfolding byte_text
high_byte x high =
    let unmarked : is_marked x ≡ false = or_from (x == 34) (x == 92) (ne_eqb x 34 (λ e. omega arith)) (ne_eqb x 92 (λ e. omega arith)) in
    let is : is_plain true x ≡ true =
    and_from (nat_le 32 x) (nat_lt x 127 || nat_lt 127 x) (le-leb 32 x (omega arith)) (or_right (nat_lt x 127) (nat_lt 127 x) (lt-ltb 127 x (omega arith))) in
    λ i. cond (unmarked i) (92 ∷ x ∷ []) (cond (is i) (x ∷ []) (code_text x))

high_bytes : (xs : List ℕ) → ((k : ℕ) → k < length xs → 128 ≤ get_or xs k 0) → bytes_text true xs ≡ xs
high_bytes [] h = refl
high_bytes (x ∷ xs) h =
    ap₂ (λ (a b : List ℕ). a ++ b) (high_byte x (h 0 (omega arith))) (high_bytes xs (λ k below. h (suc k) (omega arith)))

bytes-append : (xs ys : List ℕ) → bytes_text true (xs ++ ys) ≡ bytes_text true xs ++ bytes_text true ys
bytes-append [] ys = refl
bytes-append (x ∷ xs) ys =
    ap (λ (t : List ℕ). byte_text true x ++ t) (bytes-append xs ys) ∙ sym (append_assoc (byte_text true x) (bytes_text true xs) (bytes_text true ys))

one_character : (c : ℕ) → scalar c ≡ true → IsUtf8 (bytes_text true (encode c))
one_character c ok = elim (cases_lt c 128) [
  | inl small ↦ rw (encode_ascii c small, append-nil) (ascii_byte c small)
  | inr big ↦
      let high : (k : ℕ) → k < length (encode c) → 128 ≤ get_or (encode c) k 0 = λ k below. elim (cases_lt (get_or (encode c) k 0) 128) [
        | inl low ↦ absurd (omega (arith, inside_one c [] (encode c) k (sym (append-nil _)) below low))
        | inr h ↦ h
      ] in
      subst IsUtf8 (sym (high_bytes (encode c) high)) (IsUtf8-encode c ok)
]

all_characters : (cs : List ℕ) → scalars cs ≡ true → IsUtf8 (bytes_text true (encodes cs))
all_characters [] e = IsUtf8-nil
all_characters (c ∷ cs) e =
    let p = and_parts (scalar c) (scalars cs) e in
    subst IsUtf8 (sym (bytes-append (encode c) (encodes cs)))
    (IsUtf8-append (bytes_text true (encode c)) (bytes_text true (encodes cs)) (one_character c p.0) (all_characters cs p.1))

utf8_bytes : (s : List ℕ) → IsUtf8 s → IsUtf8 (bytes_text true s)
utf8_bytes s u = subst (λ (t : List ℕ). IsUtf8 (bytes_text true t)) u.1.1 (all_characters u.0 u.1.0)

either_bytes : (utf8 : Bool) (s : List ℕ) → IsText s → (utf8 ≡ true → IsUtf8 s) → IsUtf8 (bytes_text utf8 s)
either_bytes true s h u = utf8_bytes s (u refl)
either_bytes false s h u = latin_bytes s h

-- three parts
parts : (xs ys zs : List ℕ) → IsUtf8 xs → IsUtf8 ys → IsUtf8 zs → IsUtf8 (xs ++ ys ++ zs)
parts xs ys zs h k l = IsUtf8-append (xs ++ ys) zs (IsUtf8-append xs ys h k) l

string_is : (s : List ℕ) → IsText s → IsUtf8 (string_text s)
unfolding string_text
string_is s h =
    let utf8 = is_utf8 s in
    parts (codes "\"") (bytes_text utf8 s) (codes "\"") (IsUtf8-are_ascii (codes "\"") refl)
    (either_bytes utf8 s h (λ e. IsUtf8-from_is_utf8 s e)) (IsUtf8-are_ascii (codes "\"") refl)

value_is : (v : FieldValue) → IsValue v → IsUtf8 (value_text v)
value_is (text bytes) h = string_is bytes h
value_is (number count) h = IsUtf8-from_ascii (decimal count) (IsAscii-decimal count h)

field_is : (field : Field) → IsField field → IsUtf8 (field_text field)
unfolding field_text
field_is field h = parts (string_text field.name) (codes ":") (value_text field.value) (string_is field.name h.0) (IsUtf8-are_ascii (codes ":") refl) (value_is field.value h.1)

more_is : (field : Field) → IsField field → IsUtf8 (more_text field)
unfolding more_text
more_is field h = IsUtf8-append (codes ",") (field_text field) (IsUtf8-are_ascii (codes ",") refl) (field_is field h)

opening_is : (field : Field) → IsField field → IsUtf8 (opening field)
unfolding opening
opening_is field h = IsUtf8-append (codes "{") (field_text field) (IsUtf8-are_ascii (codes "{") refl) (field_is field h)

fields_are : (fields : List Field) → AllByRecursion IsField fields → IsUtf8 (fields_text fields)
fields_are [] h = IsUtf8-nil
fields_are (field ∷ fields) h = IsUtf8-append (more_text field) (fields_text fields) (more_is field h.0) (fields_are fields h.1)

pub object_is_utf8 : (fields : List Field) → AllByRecursion IsField fields → IsUtf8 (object_text fields)
unfolding object_text
object_is_utf8 [] h = IsUtf8-are_ascii (codes "{}\n") refl
object_is_utf8 (field ∷ fields) h = parts (opening field) (fields_text fields) (codes "}\n") (opening_is field h.0) (fields_are fields h.1) (IsUtf8-are_ascii (codes "}\n") refl)
