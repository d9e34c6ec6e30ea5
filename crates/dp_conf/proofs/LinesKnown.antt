-- Facts about each line of a text that is read without a fault.
use Rattle.std.proofs.Common.{◌≡◌, ℕ, ◌+◌, ◌<◌, Bool, true, false, cond, ◌&&◌, ◌==◌, nat_eq, List, [], ◌∷◌, ◌++◌, length, take, drop, Option, Some, None, Result, Ok, Err, codes, refl, ap, ◌∙◌, sym, subst}
use Rattle.std.specs.List.{AllByRecursion, list_any, onto_first, starts_with}
use Rattle.std.specs.Str.{byte}
use Rattle.dp_conf.specs.Answers.{◌>>=◌, with_front, all_of, each_after}
use Rattle.dp_conf.specs.Blanks.{is_blank, trim, trim_start, trim_end}
use Rattle.dp_conf.specs.Cut.{cut_once}
use Rattle.dp_conf.specs.Lines.{LineOf, Header, Pair, byte_order_mark, without_mark, line_feed, parts_of, comment_start, comment_of, opens_block, without_escapes, content_of, header_by, header_of, after_sign, pair_of, item_of, part_item, opens_section, at_line, reading_of, lines_of}
use Rattle.dp_conf.specs.declared.fault.LineKind.{LineKind}
use Rattle.dp_conf.specs.declared.fault.LineKind.TheVariants.{BlockComment, NoSection, Directive}
use Rattle.dp_conf.proofs.TextLemmas.{each-append, each-take, each-drop, each-trim, Avoids, cut_once-is, each-cut_front, each-cut_rest, IsTrimmed, trimmed-trim, trim_start-firm, before_kept-firm}

-- a byte of a line
abbrev pub IsLineByte : ℕ → Type 0
IsLineByte b = (b < 256) × ((b == 10) ≡ false)

abbrev pub AreLineBytes : List ℕ → Type 0
AreLineBytes text = AllByRecursion IsLineByte text

-- the name of a header
pub record IsHeader (name : List ℕ) : Type 0 where
  pub first : ℕ
  pub rest : List ℕ
  pub is : name ≡ first ∷ rest
  pub trimmed : IsTrimmed name
  pub no_end : Avoids 93 name
  pub bytes : AreLineBytes name

-- a key begins neither a header nor a directive
abbrev pub BeginsPair : List ℕ → Type 0
BeginsPair [] = Unit {0}
BeginsPair (k ∷ key) = ((k == 91) ≡ false) × ((k == 35) ≡ false)

-- a pair
pub record IsPair (key value : List ℕ) : Type 0 where
  pub begins : BeginsPair key
  pub key_trimmed : IsTrimmed key
  pub no_sign : Avoids 61 key
  pub key_bytes : AreLineBytes key
  pub value_trimmed : IsTrimmed value
  pub value_bytes : AreLineBytes value

abbrev pub IsKnownLine : LineOf → Type 0
IsKnownLine (Header line name) = IsHeader name
IsKnownLine (Pair line key value) = IsPair key value

-- ---- the bytes of a line

bytes-onto_first : (b : ℕ) (parts : List (List ℕ)) → IsLineByte b → AllByRecursion AreLineBytes parts → AllByRecursion AreLineBytes (onto_first b parts)
bytes-onto_first b [] fine a = ((fine, tt), tt)
bytes-onto_first b (part ∷ parts) fine a = ((fine, a.0), a.1)

parts_of-bytes : (text : List ℕ) → AllByRecursion (λ b. b < 256) text → AllByRecursion AreLineBytes (parts_of text)
parts_of-bytes [] bytes = (tt, tt)
parts_of-bytes (b ∷ text) bytes = by (b == 10) refl (parts_of-bytes text bytes.1)
  where
    by : (t : Bool) → (b == 10) ≡ t → AllByRecursion AreLineBytes (parts_of text) → AllByRecursion AreLineBytes (cond t ([] ∷ parts_of text) (onto_first b (parts_of text)))
    by true e rest = (tt, rest)
    by false e rest = bytes-onto_first b (parts_of text) (bytes.0, e) rest

without_mark-bytes : (text : List ℕ) → AllByRecursion (λ b. b < 256) text → AllByRecursion (λ b. b < 256) (without_mark text)
without_mark-bytes text bytes = by (starts_with nat_eq text byte_order_mark)
  where
    by : (t : Bool) → AllByRecursion (λ b. b < 256) (cond t (drop 3 text) text)
    by true = each-drop (λ b. b < 256) 3 text bytes
    by false = bytes

without_escapes-bytes : (text : List ℕ) → AreLineBytes text → AreLineBytes (without_escapes text)
without_escapes-bytes [] bytes = tt
without_escapes-bytes (b ∷ text) bytes = by (b == byte "\\" && starts_with nat_eq text (codes ";")) (without_escapes-bytes text bytes.1)
  where
    by : (t : Bool) → AreLineBytes (without_escapes text) → AreLineBytes (cond t (without_escapes text) (b ∷ without_escapes text))
    by true rest = rest
    by false rest = (bytes.0, rest)

content_of-bytes : (part : List ℕ) → AreLineBytes part → AreLineBytes (content_of part)
content_of-bytes part bytes =
    let front : List ℕ = take (comment_start line_feed part) part in
    each-trim IsLineByte (without_escapes front) (without_escapes-bytes front (each-take IsLineByte (comment_start line_feed part) part bytes))

-- ---- one line

header_by-known : (line : ℕ) (name after : List ℕ) (items : List LineOf) → IsTrimmed name → Avoids 93 name → AreLineBytes name → header_by line name after ≡ Ok items → AllByRecursion IsKnownLine items
header_by-known line [] after items trimmed avoids bytes e = absurd cc
header_by-known line (n ∷ name) (b ∷ after) items trimmed avoids bytes e = absurd cc
header_by-known line (n ∷ name) [] items trimmed avoids bytes e =
    let same : Header line (n ∷ name) ∷ [] ≡ items = cc in
    subst (AllByRecursion IsKnownLine) same (record { first = n; rest = name; is = refl; trimmed = trimmed; no_end = avoids; bytes = bytes }, tt)

header_of-known : (line : ℕ) (text : List ℕ) (cut : Option (List ℕ × List ℕ)) (items : List LineOf) → AreLineBytes text → cut_once 93 text ≡ cut → header_of line cut ≡ Ok items → AllByRecursion IsKnownLine items
header_of-known line text None items bytes c e = absurd cc
header_of-known line text (Some cut) items bytes c e =
    let is = cut_once-is 93 text cut.0 cut.1 c in
    header_by-known line (trim cut.0) (trim_start cut.1) items (trimmed-trim cut.0) (each-trim (λ b. (b == 93) ≡ false) cut.0 is.avoids) (each-trim IsLineByte cut.0 (each-cut_front IsLineByte 93 text cut.0 cut.1 is bytes)) e

begins_pair : (b : ℕ) (bs front rest : List ℕ) → (b == 91) ≡ false → (b == 35) ≡ false → is_blank b ≡ false → b ∷ bs ≡ front ++ 61 ∷ rest → BeginsPair (trim front)
begins_pair b bs [] rest header directive firm e = tt
begins_pair b bs (d ∷ front) rest header directive firm e =
    let same : b ≡ d = cc in
    let firm_d : is_blank d ≡ false = subst (λ c. is_blank c ≡ false) same firm in
    subst BeginsPair (sym (ap trim_end (trim_start-firm (d ∷ front) firm_d) ∙ before_kept-firm d (trim_end front) firm_d))
    (subst (λ c. (c == 91) ≡ false) same header, subst (λ c. (c == 35) ≡ false) same directive)

after_sign-bytes : (text : List ℕ) → AreLineBytes text → AreLineBytes (after_sign text)
after_sign-bytes [] bytes = tt
after_sign-bytes (b ∷ text) bytes = by (b == byte ">")
  where
    by : (t : Bool) → AreLineBytes (cond t text (b ∷ text))
    by true = bytes.1
    by false = bytes

pair_of-known : (line b : ℕ) (bs : List ℕ) (cut : Option (List ℕ × List ℕ)) (items : List LineOf) → (b == 91) ≡ false → (b == 35) ≡ false → is_blank b ≡ false → AreLineBytes (b ∷ bs) → cut_once 61 (b ∷ bs) ≡ cut → pair_of line cut ≡ Ok items → AllByRecursion IsKnownLine items
pair_of-known line b bs None items header directive firm bytes c e = absurd cc
pair_of-known line b bs (Some cut) items header directive firm bytes c e =
    let is = cut_once-is 61 (b ∷ bs) cut.0 cut.1 c in
    let same : Pair line (trim cut.0) (trim (after_sign cut.1)) ∷ [] ≡ items = cc in
    subst (AllByRecursion IsKnownLine) same (
      record {
        begins = begins_pair b bs cut.0 cut.1 header directive firm is.whole;
        key_trimmed = trimmed-trim cut.0;
        no_sign = each-trim (λ b. (b == 61) ≡ false) cut.0 is.avoids;
        key_bytes = each-trim IsLineByte cut.0 (each-cut_front IsLineByte 61 (b ∷ bs) cut.0 cut.1 is bytes);
        value_trimmed = trimmed-trim (after_sign cut.1);
        value_bytes = each-trim IsLineByte (after_sign cut.1) (after_sign-bytes cut.1 (each-cut_rest IsLineByte 61 (b ∷ bs) cut.0 cut.1 is bytes));
      },
      tt,
    )

item_of-known : (in_section : Bool) (line : ℕ) (content : List ℕ) (items : List LineOf) → IsTrimmed content → AreLineBytes content → item_of in_section line content ≡ Ok items → AllByRecursion IsKnownLine items
item_of-known in_section line [] items trimmed bytes e =
    let none : [] ≡ items = cc in subst (AllByRecursion IsKnownLine) none tt
item_of-known in_section line (b ∷ bs) items trimmed bytes e = by (b == 91) refl (b == 35) refl in_section e
  where
    by : (t : Bool) → (b == 91) ≡ t → (d : Bool) → (b == 35) ≡ d → (s : Bool) → cond t (header_of line (cut_once 93 bs)) (cond d (Err Directive) (cond s (pair_of line (cut_once 61 (b ∷ bs))) (Err NoSection))) ≡ Ok items → AllByRecursion IsKnownLine items
    by true header d directive s e = header_of-known line bs (cut_once 93 bs) items bytes.1 refl e
    by false header true directive s e = absurd cc
    by false header false directive false e = absurd cc
    by false header false directive true e = pair_of-known line b bs (cut_once 61 (b ∷ bs)) items header directive trimmed.begins bytes refl e

part_item-known : (in_section : Bool) (line : ℕ) (part : List ℕ) (items : List LineOf) → AreLineBytes part → part_item in_section line part ≡ Ok items → AllByRecursion IsKnownLine items
part_item-known in_section line part items bytes e = by (opens_block (comment_of part)) e
  where
    by : (t : Bool) → cond t (Err BlockComment) (item_of in_section line (content_of part)) ≡ Ok items → AllByRecursion IsKnownLine items
    by true e = absurd cc
    by false e = item_of-known in_section line (content_of part) items (trimmed-trim (without_escapes (take (comment_start line_feed part) part))) (content_of-bytes part bytes) e

at_line-is : {X : Type 0} (line : ℕ) (r : Result X LineKind) (x : X) → at_line line r ≡ Ok x → r ≡ Ok x
at_line-is line (Ok y) x e = cc
at_line-is line (Err kind) x e = absurd cc

-- ---- all lines

-- what holds of the values of each reading holds of all values
pub each-all_of : {X Y E : Type 0} (Q : X → Type 0) (P : Y → Type 0) (f : List X → X → Result (List Y) E) → ((before : List X) (x : X) (ys : List Y) → Q x → f before x ≡ Ok ys → AllByRecursion P ys) → (before xs : List X) (ys : List Y) → AllByRecursion Q xs → all_of (each_after f before xs) ≡ Ok ys → AllByRecursion P ys
each-all_of Q P f one before [] ys all e =
    let none : [] ≡ ys = cc in subst (AllByRecursion P) none tt
each-all_of {X} {Y} {E} Q P f one before (x ∷ xs) ys all e =
    by (λ zs r. each-all_of Q P f one (before ++ x ∷ []) xs zs all.1 r) (f before x) refl (all_of (each_after f (before ++ x ∷ []) xs)) refl e
  where
    by : ((zs : List Y) → all_of (each_after f (before ++ x ∷ []) xs) ≡ Ok zs → AllByRecursion P zs) → (r : Result (List Y) E) → f before x ≡ r → (rest : Result (List Y) E) → all_of (each_after f (before ++ x ∷ []) xs) ≡ rest → (r >>= λ zs. with_front zs rest) ≡ Ok ys → AllByRecursion P ys
    by later (Err fault) read rest after e = absurd cc
    by later (Ok front) read (Err fault) after e = absurd cc
    by later (Ok front) read (Ok zs) after e =
        let same : front ++ zs ≡ ys = cc in
        subst (AllByRecursion P) same (each-append P front zs (one before x front all.0 read) (later zs after))

-- each line of a text that is read
pub lines_of-known : (text : List ℕ) (lines : List LineOf) → AllByRecursion (λ b. b < 256) text → lines_of text ≡ Ok lines → AllByRecursion IsKnownLine lines
unfolding lines_of
lines_of-known text lines bytes e =
    each-all_of AreLineBytes IsKnownLine reading_of
    (λ before part items b read. part_item-known (list_any opens_section before) (length before + 1) part items b (at_line-is (length before + 1) (part_item (list_any opens_section before) (length before + 1) part) items read))
    [] (parts_of (without_mark text)) lines (parts_of-bytes (without_mark text) (without_mark-bytes text bytes)) e
