-- The lines written for items are read as headers and pairs again.
use Rattle.std.proofs.Common.{◌≡◌, ℕ, ◌+◌, Bool, true, false, cond, ◌||◌, ◌==◌, List, [], ◌∷◌, ◌++◌, map, length, drop, Result, Ok, Err, codes, refl, ap, ◌∙◌, sym, subst, append_assoc, length-append}
use Rattle.std.specs.List.{AllByRecursion, list_any}
use Rattle.std.specs.Str.{byte}
use Rattle.std.proofs.lemmas.List.Elements.{All-from_recursion}
use Rattle.std.proofs.lemmas.List.Splits.{slice_split_at}
use Rattle.std.proofs.lemmas.List.Folds.{list_any-append}
use Rattle.dp_conf.specs.Answers.{with_front, all_of, each_after}
use Rattle.dp_conf.specs.Blanks.{is_blank, before_kept, trim, trim_end}
use Rattle.dp_conf.specs.Cut.{begins_with, cut_once}
use Rattle.dp_conf.specs.Escape.{escape_text}
use Rattle.dp_conf.specs.Lines.{LineOf, Header, Pair, LineFault, line_feed, parts_of, comment_of, opens_block, content_of, header_by, header_of, pair_of, item_of, part_item, opens_section, at_line, reading_of, lines_of}
use Rattle.dp_conf.specs.declared.fault.LineKind.{LineKind}
use Rattle.dp_conf.specs.declared.fault.LineKind.TheVariants.{BlockComment}
use Rattle.dp_conf.proofs.EscapeLemmas.{escape_text-semicolon, escape_text-other, comment_start-escape_text, content_of-escape_text}
use Rattle.dp_lister.specs.Listing.{header_line, text_of}
use Rattle.dp_plan.proofs.PartsKnown.{IsKey, IsValue, IsHeaderName}
use Rattle.dp_conf.proofs.TextLemmas.{Avoids, each-append, IsTrimmed, trim-trimmed, trim_end-after, trim_end-blank, firm-after, trim-blank_after, trim-blank_before, cut_once-here}

-- ---- a written line

drop-all : {X : Type 0} (xs : List X) → drop (length xs) xs ≡ []
drop-all [] = refl
drop-all (x ∷ xs) = drop-all xs

-- a written line has no comment
comment_of-escape_text : (text : List ℕ) → comment_of (escape_text text) ≡ []
comment_of-escape_text text = ap (λ n. drop n (escape_text text)) (comment_start-escape_text line_feed text) ∙ drop-all (escape_text text)

-- a written line is read from its trimmed text
part_item-written : (in_section : Bool) (line : ℕ) (text : List ℕ) → part_item in_section line (escape_text text) ≡ item_of in_section line (trim text)
part_item-written in_section line text =
    ap (λ (comment : List ℕ). cond {A = Result (List LineOf) LineKind} (opens_block comment) (Err BlockComment) (item_of in_section line (content_of (escape_text text)))) (comment_of-escape_text text)
    ∙ ap (item_of in_section line) (content_of-escape_text text)

-- ---- a header

trim-header : (name : List ℕ) → trim (header_line name) ≡ header_line name
trim-header name = trim_end-after (91 ∷ name) 93 [] refl

header_of-name : (line first : ℕ) (rest : List ℕ) → IsTrimmed (first ∷ rest) → Avoids 93 (first ∷ rest) → header_of line (cut_once 93 ((first ∷ rest) ++ 93 ∷ [])) ≡ Ok (Header line (first ∷ rest) ∷ [])
header_of-name line first rest trimmed avoids =
    ap (header_of line) (cut_once-here 93 (first ∷ rest) [] avoids)
    ∙ ap (λ (name : List ℕ). header_by line name []) (trim-trimmed (first ∷ rest) trimmed)

-- a header is read as its name
pub header_reads : (in_section : Bool) (line : ℕ) (name : List ℕ) → IsHeaderName name → item_of in_section line (trim (header_line name)) ≡ Ok (Header line name ∷ [])
header_reads in_section line name fine =
    ap (item_of in_section line) (trim-header name)
    ∙ subst (λ (n : List ℕ). header_of line (cut_once 93 (n ++ 93 ∷ [])) ≡ Ok (Header line n ∷ [])) (sym fine.some.is)
    (header_of-name line fine.some.first fine.some.rest (subst IsTrimmed fine.some.is fine.trimmed) (subst (Avoids 93) fine.some.is fine.no_end))

-- ---- a pair

-- the line of a pair
abbrev pub pair_line : List ℕ → List ℕ → List ℕ
pair_line key value = key ++ (codes " => " ++ value)

-- the value in a trimmed line
abbrev value_shown : List ℕ → List ℕ
value_shown [] = []
value_shown (v ∷ value) = 32 ∷ v ∷ value

trim-value_shown : (value : List ℕ) → IsTrimmed value → trim (value_shown value) ≡ value
trim-value_shown [] t = refl
trim-value_shown (v ∷ value) t = trim-blank_before (v ∷ value) t

trim-pair : (k : ℕ) (key value : List ℕ) → is_blank k ≡ false → IsTrimmed value → trim (pair_line (k ∷ key) value) ≡ (k ∷ key) ++ 32 ∷ 61 ∷ 62 ∷ value_shown value
trim-pair k key [] firm t =
    ap trim_end (firm-after k key (32 ∷ 61 ∷ 62 ∷ 32 ∷ []) firm)
    ∙ (ap trim_end (sym (append_assoc (k ∷ key) (32 ∷ 61 ∷ 62 ∷ []) (32 ∷ [])))
    ∙ (trim_end-blank ((k ∷ key) ++ 32 ∷ 61 ∷ 62 ∷ []) ∙ trim_end-after (k ∷ key) 32 (61 ∷ 62 ∷ []) refl))
trim-pair k key (v ∷ value) firm t =
    ap trim_end (firm-after k key (32 ∷ 61 ∷ 62 ∷ 32 ∷ v ∷ value) firm)
    ∙ trim_end-after (k ∷ key) 32 (61 ∷ 62 ∷ 32 ∷ v ∷ value) (ap (λ (text : List ℕ). before_kept 32 (before_kept 61 (before_kept 62 (before_kept 32 text)))) t.ends)

pair_of-value_shown : (line k : ℕ) (key value : List ℕ) → IsTrimmed (k ∷ key) → Avoids 61 (k ∷ key) → IsTrimmed value → pair_of line (cut_once 61 ((k ∷ key) ++ 32 ∷ 61 ∷ 62 ∷ value_shown value)) ≡ Ok (Pair line (k ∷ key) value ∷ [])
pair_of-value_shown line k key value trimmed avoids t =
    let blank : Avoids 61 ((k ∷ key) ++ 32 ∷ []) = each-append (λ b. (b == 61) ≡ false) (k ∷ key) (32 ∷ []) avoids (refl, tt) in
    ap (λ (text : List ℕ). pair_of line (cut_once 61 text)) (sym (append_assoc (k ∷ key) (32 ∷ []) (61 ∷ 62 ∷ value_shown value)))
    ∙ (ap (pair_of line) (cut_once-here 61 ((k ∷ key) ++ 32 ∷ []) (62 ∷ value_shown value) blank)
    ∙ (λ i. Ok (Pair line (trim-blank_after k key trimmed i) (trim-value_shown value t i) ∷ [])))

pair_reads_by : (line k : ℕ) (key value : List ℕ) → (k == 91) ≡ false → (k == 35) ≡ false → IsTrimmed (k ∷ key) → Avoids 61 (k ∷ key) → IsTrimmed value → item_of true line (trim (pair_line (k ∷ key) value)) ≡ Ok (Pair line (k ∷ key) value ∷ [])
pair_reads_by line k key value no_header no_directive trimmed avoids t =
    rw (trim-pair k key value trimmed.begins t, no_header, no_directive) (pair_of-value_shown line k key value trimmed avoids t)

-- a pair is read as its key and its value
pub pair_reads : (line : ℕ) (key value : List ℕ) → IsKey key → IsValue value → item_of true line (trim (pair_line key value)) ≡ Ok (Pair line key value ∷ [])
pair_reads line key value fine v =
    subst (λ (k : List ℕ). item_of true line (trim (pair_line k value)) ≡ Ok (Pair line k value ∷ [])) (sym fine.is)
    (pair_reads_by line fine.first fine.rest value fine.no_header fine.no_directive (subst IsTrimmed fine.is fine.trimmed) (subst (Avoids 61) fine.is fine.no_sign) v.trimmed)

-- ---- the parts of a text

escape_text-one_line : (text : List ℕ) → Avoids 10 text → Avoids 10 (escape_text text)
escape_text-one_line [] a = tt
escape_text-one_line (b ∷ text) a = by (escape_text-one_line text a.1) (b == byte ";") refl where
  by : Avoids 10 (escape_text text) → (t : Bool) → (b == byte ";") ≡ t → Avoids 10 (escape_text (b ∷ text))
  by rest true e = subst (Avoids 10) (sym (escape_text-semicolon b text e)) (refl, (a.0, rest))
  by rest false e = subst (Avoids 10) (sym (escape_text-other b text e)) (a.0, rest)

-- the parts of written lines are these lines, escaped, and an empty part
parts_of-text_of : (lines : List (List ℕ)) → AllByRecursion (Avoids 10) lines → parts_of (text_of lines) ≡ map escape_text lines ++ [] ∷ []
parts_of-text_of [] a = refl
parts_of-text_of (line ∷ lines) a =
    ap parts_of (append_assoc (escape_text line) (10 ∷ []) (text_of lines))
    ∙ (slice_split_at (λ b. b == 10) (escape_text line) 10 (text_of lines) (All-from_recursion (λ b. (b == 10) ≡ false) (escape_text line) (escape_text-one_line line a.0)) refl
    ∙ ap (λ (parts : List (List ℕ)). escape_text line ∷ parts) (parts_of-text_of lines a.1))

-- ---- lines one after another

-- a line is read as its item, after a header
abbrev pub ReadsAs : List ℕ → (ℕ → LineOf) → Type 0
ReadsAs text item = (line : ℕ) → item_of true line (trim text) ≡ Ok (item line ∷ [])

-- the lines together with the items as which they are read
abbrev pub ReadAs : List (List ℕ × (ℕ → LineOf)) → Type 0
ReadAs = AllByRecursion (λ wording. Avoids 10 wording.0 × ReadsAs wording.0 wording.1)

-- the items of lines, numbered after this many lines
abbrev pub conf_lines : ℕ → List (List ℕ × (ℕ → LineOf)) → List LineOf
conf_lines n [] = []
conf_lines n (wording ∷ wordings) = wording.1 (n + 1) ∷ conf_lines (n + 1) wordings

abbrev readings : List (List ℕ) → List (List ℕ × (ℕ → LineOf)) → Result (List LineOf) LineFault
readings before wordings = all_of (each_after reading_of before (map escape_text (map (λ wording. wording.0) wordings) ++ [] ∷ []))

reading_of-written : (before : List (List ℕ)) (s : Bool) (n : ℕ) (text : List ℕ) (item : LineOf) → list_any opens_section before ≡ s → length before ≡ n → item_of s (n + 1) (trim text) ≡ Ok (item ∷ []) → reading_of before (escape_text text) ≡ Ok (item ∷ [])
reading_of-written before s n text item opened count read =
    (λ i. at_line (count i + 1) (part_item (opened i) (count i + 1) (escape_text text)))
    ∙ (ap (at_line (n + 1)) (part_item-written s (n + 1) text ∙ read))

read-wordings : (wordings : List (List ℕ × (ℕ → LineOf))) (before : List (List ℕ)) (n : ℕ) → list_any opens_section before ≡ true → length before ≡ n → ReadAs wordings → readings before wordings ≡ Ok (conf_lines n wordings)
read-wordings [] before n opened count read = refl
read-wordings (wording ∷ wordings) before n opened count read =
    let opened_on : list_any opens_section (before ++ escape_text wording.0 ∷ []) ≡ true = list_any-append opens_section before (escape_text wording.0 ∷ []) ∙ ap (λ t. t || list_any opens_section (escape_text wording.0 ∷ [])) opened in
    let count_on : length (before ++ escape_text wording.0 ∷ []) ≡ n + 1 = length-append before (escape_text wording.0 ∷ []) ∙ ap (λ k. k + 1) count in
    ap (λ (r : Result (List LineOf) LineFault). all_of (r ∷ each_after reading_of (before ++ escape_text wording.0 ∷ []) (map escape_text (map (λ wording. wording.0) wordings) ++ [] ∷ []))) (reading_of-written before true n wording.0 (wording.1 (n + 1)) opened count (read.0.1 (n + 1)))
    ∙ ap (with_front (wording.1 (n + 1) ∷ [])) (read-wordings wordings (before ++ escape_text wording.0 ∷ []) (n + 1) opened_on count_on read.1)

-- lines that begin with a header
pub lines_of-written : (name : List ℕ) (wordings : List (List ℕ × (ℕ → LineOf))) → IsHeaderName name → ReadAs wordings → lines_of (text_of (header_line name ∷ map (λ wording. wording.0) wordings)) ≡ Ok (Header 1 name ∷ conf_lines 1 wordings)
unfolding lines_of
lines_of-written name wordings fine read =
    let header : Avoids 10 (header_line name) = (refl, each-append (λ b. (b == 10) ≡ false) name (93 ∷ []) fine.one_line (refl, tt)) in
    let texts : AllByRecursion (Avoids 10) (map (λ wording. wording.0) wordings) = one_lines wordings read in
    let opens : list_any opens_section (escape_text (header_line name) ∷ []) ≡ true =
    ap (λ (content : List ℕ). begins_with 91 content || false) (content_of-escape_text (header_line name) ∙ trim-header name) in
    ap (λ (parts : List (List ℕ)). all_of (each_after reading_of [] parts)) (parts_of-text_of (header_line name ∷ map (λ wording. wording.0) wordings) (header, texts))
    ∙ (ap (λ (r : Result (List LineOf) LineFault). all_of (r ∷ each_after reading_of (escape_text (header_line name) ∷ []) (map escape_text (map (λ wording. wording.0) wordings) ++ [] ∷ []))) (reading_of-written [] false 0 (header_line name) (Header 1 name) refl refl (header_reads false 1 name fine))
    ∙ ap (with_front (Header 1 name ∷ [])) (read-wordings wordings (escape_text (header_line name) ∷ []) 1 opens refl read))
  where
    one_lines : (wordings : List (List ℕ × (ℕ → LineOf))) → ReadAs wordings → AllByRecursion (Avoids 10) (map (λ wording. wording.0) wordings)
    one_lines [] read = tt
    one_lines (wording ∷ wordings) read = (read.0.0, one_lines wordings read.1)

-- no lines
pub lines_of-nothing : lines_of [] ≡ Ok []
unfolding lines_of
lines_of-nothing = refl
