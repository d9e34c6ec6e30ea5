-- The readings of lines, given the number of lines before them and whether a section has begun.
use Rattle.std.proofs.Common.{◌≡◌, ℕ, ◌+◌, ◌<◌, ◌≤◌, drop, nat_eq, MatchOption, IfSome, Bool, true, false, ◌||◌, ◌&&◌, eqb, cond, not, List, [], ◌∷◌, ◌++◌, Option, Some, None, Result, Ok, Err, Bor, length, refl, ap, ◌∙◌, sym, arith}
use Rattle.std.specs.List.{list_any, starts_with}
use Rattle.std.proofs.lemmas.List.Folds.{list_any-append}
use Rattle.std.proofs.lemmas.List.{length-append, length-drop}
use Rattle.std.proofs.Math.Bool.{or-false}
use Rattle.dp_conf.specs.Answers.{◌>>=◌, each_after}
use Rattle.dp_conf.specs.Blanks.{trim, trim_start}
use Rattle.dp_conf.specs.Borrowed.{content_read}
use Rattle.dp_conf.specs.Cut.{begins_with, cut_once}
use Rattle.dp_conf.specs.Lines.{LineOf, Header, Pair, LineFault, without_mark, comment_start, comment_of, without_escapes, opens_block, content_of, header_by, header_of, after_sign, pair_of, item_of, is_header, at_line, part_item, opens_section, reading_of, parts_of}
use Rattle.dp_conf.specs.declared.fault.LineKind.{LineKind}
use Rattle.dp_conf.specs.declared.fault.LineKind.TheVariants.{BlockComment, NoSection, Directive}

-- the readings after `line` lines, given whether a section has begun
abbrev pub readings_from : Bool → ℕ → List (List ℕ) → List (Result (List LineOf) LineFault)
readings_from in_section line [] = []
readings_from in_section line (part ∷ parts) =
    at_line (line + 1) (part_item in_section (line + 1) part) ∷ readings_from (in_section || opens_section part) (line + 1) parts

pub each_after-reading_of : (before parts : List (List ℕ)) → each_after reading_of before parts ≡ readings_from (list_any opens_section before) (length before) parts
each_after-reading_of before [] = refl
each_after-reading_of before (part ∷ parts) =
    let any : list_any opens_section (before ++ part ∷ []) ≡ (list_any opens_section before || opens_section part) = list_any-append opens_section before (part ∷ []) ∙ ap (λ (t : Bool). list_any opens_section before || t) (or-false (opens_section part)) in
    let len : length (before ++ part ∷ []) ≡ length before + 1 = length-append before (part ∷ []) in
    ap (λ (later : List (Result (List LineOf) LineFault)). reading_of before part ∷ later)
    (each_after-reading_of (before ++ part ∷ []) parts
    ∙ ap (λ t. readings_from t (length (before ++ part ∷ [])) parts) any
    ∙ ap (λ n. readings_from (list_any opens_section before || opens_section part) n parts) len)

-- the parts of the rest, if there is one
abbrev pub parts_left : Option (Bor (List ℕ)) → List (List ℕ)
parts_left None = []
parts_left (Some rest) = parts_of rest.now

-- a number that decreases as the text is read
abbrev pub left_len : Option (Bor (List ℕ)) → ℕ
left_len None = 0
left_len (Some rest) = length rest.now + 1

-- the parts of the rest after the first part
pub parts_left-cut : (text part : List ℕ) (after : Option (Bor (List ℕ))) → MatchOption after (parts_of text ≡ part ∷ []) (λ rest. parts_of text ≡ part ∷ parts_of rest.now) → parts_of text ≡ part ∷ parts_left after
parts_left-cut text part None e = e
parts_left-cut text part (Some rest) e = e

-- the rest is shorter
pub left_len-cut : (text : List ℕ) (after : Option (Bor (List ℕ))) → IfSome after (λ rest. length rest.now < length text) → left_len after ≤ length text
left_len-cut text None shorter = omega arith
left_len-cut text (Some rest) shorter = omega (arith, shorter)

length-without : (t : Bool) (text : List ℕ) → length (cond t (drop 3 text) text) ≤ length text
length-without true text = omega (arith, length-drop 3 text)
length-without false text = omega arith

-- the text without its mark is not longer
pub length-without_mark : (text : List ℕ) → length (without_mark text) ≤ length text
length-without_mark text = length-without (starts_with nat_eq text (239 ∷ 187 ∷ 191 ∷ [])) text

-- a part without a block comment is read from its content
pub part_item-plain : (in_section : Bool) (line : ℕ) (part : List ℕ) → opens_block (comment_of part) ≡ false → part_item in_section line part ≡ item_of in_section line (content_of part)
part_item-plain in_section line part e =
    ap (λ t. cond {A = Result (List LineOf) LineKind} t (Err BlockComment) (item_of in_section line (content_of part))) e

-- a header by its parts is a header
header_by-is_header : (line : ℕ) (name after : List ℕ) (items : List LineOf) → header_by line name after ≡ Ok items → list_any is_header items ≡ true
header_by-is_header line [] after items e = absurd cc
header_by-is_header line (n ∷ name) [] items e =
    let same : Header line (n ∷ name) ∷ [] ≡ items = cc in
    ap (list_any is_header) (sym same)
header_by-is_header line (n ∷ name) (b ∷ after) items e = absurd cc

header_of-is_header : (line : ℕ) (cut : Option (List ℕ × List ℕ)) (items : List LineOf) → header_of line cut ≡ Ok items → list_any is_header items ≡ true
header_of-is_header line None items e = absurd cc
header_of-is_header line (Some cut) items e = header_by-is_header line (trim cut.0) (trim_start cut.1) items e

pair_of-is_no_header : (line : ℕ) (cut : Option (List ℕ × List ℕ)) (items : List LineOf) → pair_of line cut ≡ Ok items → list_any is_header items ≡ false
pair_of-is_no_header line None items e = absurd cc
pair_of-is_no_header line (Some cut) items e =
    let same : Pair line (trim cut.0) (trim (after_sign cut.1)) ∷ [] ≡ items = cc in
    ap (list_any is_header) (sym same)

other_by : (in_section directive : Bool) (line : ℕ) (cut : Option (List ℕ × List ℕ)) (items : List LineOf) → cond directive (Err Directive) (cond in_section (pair_of line cut) (Err NoSection)) ≡ Ok items → list_any is_header items ≡ false
other_by in_section true line cut items e = absurd cc
other_by true false line cut items e = pair_of-is_no_header line cut items e
other_by false false line cut items e = absurd cc

item_by : (in_section opens directive : Bool) (line : ℕ) (inside cut : Option (List ℕ × List ℕ)) (items : List LineOf) → cond opens (header_of line inside) (cond directive (Err Directive) (cond in_section (pair_of line cut) (Err NoSection))) ≡ Ok items → list_any is_header items ≡ opens
item_by in_section true directive line inside cut items e = header_of-is_header line inside items e
item_by in_section false directive line inside cut items e = other_by in_section directive line cut items e

-- an item is a header exactly if its content begins with `[`
item_of-is_header : (in_section : Bool) (line : ℕ) (content : List ℕ) (items : List LineOf) → item_of in_section line content ≡ Ok items → list_any is_header items ≡ begins_with 91 content
item_of-is_header in_section line [] items e =
    let none : [] ≡ items = cc in
    ap (list_any is_header) (sym none)
item_of-is_header in_section line (b ∷ bs) items e =
    item_by in_section (eqb b 91) (eqb b 35) line (cut_once 93 bs) (cut_once 61 (b ∷ bs)) items e

part_by : (blocked in_section : Bool) (line : ℕ) (content : List ℕ) (items : List LineOf) → cond blocked (Err BlockComment) (item_of in_section line content) ≡ Ok items → list_any is_header items ≡ begins_with 91 content
part_by true in_section line content items e = absurd cc
part_by false in_section line content items e = item_of-is_header in_section line content items e

at_line-Ok : {X : Type 0} (line : ℕ) (r : Result X LineKind) (x : X) → at_line line r ≡ Ok x → r ≡ Ok x
at_line-Ok line (Ok y) x e = cc
at_line-Ok line (Err kind) x e = absurd cc

-- the item of a part is a header exactly if the part begins a section
pub opens_section-is_header : (in_section : Bool) (line : ℕ) (part : List ℕ) (items : List LineOf) → at_line line (part_item in_section line part) ≡ Ok items → list_any is_header items ≡ opens_section part
opens_section-is_header in_section line part items e =
    part_by (opens_block (comment_of part)) in_section line (content_of part) items (at_line-Ok line (part_item in_section line part) items e)

-- a text without a `\` is unchanged
pub without_escapes-plain : (text : List ℕ) → list_any (λ b. eqb b 92) text ≡ false → without_escapes text ≡ text
without_escapes-plain [] e = refl
without_escapes-plain (b ∷ text) e = by (eqb b 92) (without_escapes-plain text) e
  where
    by : (t : Bool) → (list_any (λ b. eqb b 92) text ≡ false → without_escapes text ≡ text) → (t || list_any (λ b. eqb b 92) text) ≡ false → cond (t && starts_with nat_eq text (59 ∷ [])) (without_escapes text) (b ∷ without_escapes text) ≡ b ∷ text
    by true later e = absurd cc
    by false later e = ap (λ (bs : List ℕ). b ∷ bs) (later e)

-- a text without a `;` has no comment
pub comment_start-none : (previous : ℕ) (text : List ℕ) → list_any (λ b. eqb b 59) text ≡ false → comment_start previous text ≡ length text
comment_start-none previous [] e = refl
comment_start-none previous (b ∷ text) e = by (eqb b 59) (comment_start-none b text) e
  where
    by : (t : Bool) → (list_any (λ b. eqb b 59) text ≡ false → comment_start b text ≡ length text) → (t || list_any (λ b. eqb b 59) text) ≡ false → cond (t && not (eqb previous 92)) 0 (1 + comment_start b text) ≡ length (b ∷ text)
    by true later e = absurd cc
    by false later e = omega (arith, later e)

-- a part is read from its content
part_by_content : (blocked in_section : Bool) (line : ℕ) (content : List ℕ) → at_line line (cond blocked (Err BlockComment) (item_of in_section line content)) ≡ (at_line line (cond {A = Result (List ℕ) LineKind} blocked (Err BlockComment) (Ok content)) >>= λ c. at_line line (item_of in_section line c))
part_by_content true in_section line content = refl
part_by_content false in_section line content = refl

pub part_item-content : (in_section : Bool) (line : ℕ) (part : List ℕ) → at_line line (part_item in_section line part) ≡ (at_line line (content_read part) >>= λ c. at_line line (item_of in_section line c))
part_item-content in_section line part = part_by_content (opens_block (comment_of part)) in_section line (content_of part)

-- a part whose content is a block comment
pub part_item-refused : (in_section : Bool) (line : ℕ) (part : List ℕ) (fault : LineFault) → at_line line (content_read part) ≡ Err fault → at_line line (part_item in_section line part) ≡ Err fault
part_item-refused in_section line part fault e =
    part_item-content in_section line part ∙ ap (λ (r : Result (List ℕ) LineFault). r >>= λ c. at_line line (item_of in_section line c)) e

-- a part whose content was read
pub part_item-read : (in_section : Bool) (line : ℕ) (part content : List ℕ) → at_line line (content_read part) ≡ Ok content → at_line line (part_item in_section line part) ≡ at_line line (item_of in_section line content)
part_item-read in_section line part content e =
    part_item-content in_section line part ∙ ap (λ (r : Result (List ℕ) LineFault). r >>= λ c. at_line line (item_of in_section line c)) e
