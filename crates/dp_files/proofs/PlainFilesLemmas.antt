-- A file with neither block comments nor directives is read unchanged.
use Rattle.std.proofs.Common.{◌≡◌, ℕ, suc, ◌+◌, ◌-◌, ◌≤◌, Bool, true, false, cond, eqb, not, ◌&&◌, ◌||◌, List, [], ◌∷◌, ◌++◌, take, drop, length, Option, None, Some, Result, Ok, refl, ap, sym, ◌∙◌, arith}
use Rattle.std.specs.List.{list_any}
use Rattle.std.proofs.lemmas.List.{append_assoc, append-nil}
use Rattle.std.proofs.lemmas.Bool.{le-leb}
use Rattle.dp_conf.specs.Blanks.{trim}
use Rattle.dp_conf.specs.Cut.{begins_with}
use Rattle.dp_conf.specs.Lines.{without_mark, parts_of, comment_start, comment_of, opens_block, content_of}
use Rattle.dp_files.specs.Comments.{Uncovered, with_byte, uncovered_from, rest_of_line, FileLinesOf, with_line as before_lines, lines_after, file_lines}
use Rattle.dp_files.specs.Directives.{DirectiveOf, word_length, without_quotes, directive_by, directive_of}
use Rattle.dp_files.specs.PlainFiles.{is_special, IsPlainFile, numbered_lines, plain_reading}
use Rattle.dp_files.specs.Reading.{FilesReadSoFar, FileRequestOf, FilesOf, after_directive, after_comment, after_line, after_lines, after_text, including_first, files_of, reading_by, reading_of, with_line}
use Rattle.dp_files.specs.Sources.{Files, TextRead, Bytes, TooLong, text_read}
use Rattle.dp_files.specs.declared.reading.ReadingFault.{ReadingFault}

or-false_left : (a b : Bool) → (a || b) ≡ false → a ≡ false
or-false_left true b e = e
or-false_left false b e = refl

or-false_right : (a b : Bool) → (a || b) ≡ false → b ≡ false
or-false_right true b e = absurd cc
or-false_right false b e = e

drop-next : (n b : ℕ) (bs : List ℕ) → drop (1 + n) (b ∷ bs) ≡ drop n bs
drop-next n b bs =
    let e : 1 + n ≡ suc n = omega arith in
    ap (λ k. drop k (b ∷ bs)) e

-- a line in which no block comment begins is unchanged
uncovered_from-plain : (line previous : ℕ) (text : List ℕ) → opens_block (drop (comment_start previous text) text) ≡ false → uncovered_from line 0 [] previous text ≡ record { text = text; unclosed = [] }
uncovered_from-plain line previous [] plain = refl
uncovered_from-plain line previous (b ∷ bs) plain = by (uncovered_from-plain line b bs) (eqb b 59 && not (eqb previous 92)) plain
  where
    by : (opens_block (drop (comment_start b bs) bs) ≡ false → uncovered_from line 0 [] b bs ≡ record { text = bs; unclosed = [] }) → (t : Bool)
        → opens_block (drop (cond t 0 (1 + comment_start b bs)) (b ∷ bs)) ≡ false
        → cond {A = Uncovered} t (cond (opens_block (b ∷ bs)) (uncovered_from line 2 (line ∷ []) 10 bs) (record { text = b ∷ bs; unclosed = [] })) (with_byte b (uncovered_from line 0 [] b bs)) ≡ record { text = b ∷ bs; unclosed = [] }
    by rest true plain = ap (λ t. cond {A = Uncovered} t (uncovered_from line 2 (line ∷ []) 10 bs) (record { text = b ∷ bs; unclosed = [] })) plain
    by rest false plain = ap (with_byte b) (rest (sym (ap opens_block (drop-next (comment_start b bs) b bs)) ∙ plain))

uncovered-plain : (line : ℕ) (part : List ℕ) → opens_block (comment_of part) ≡ false → rest_of_line line [] part ≡ record { text = part; unclosed = [] }
unfolding rest_of_line
uncovered-plain line part plain = uncovered_from-plain line 10 part plain

-- the lines are the parts
lines_after-plain : (count : ℕ) (parts : List (List ℕ)) → list_any is_special parts ≡ false → lines_after count [] parts ≡ record { texts = parts; open_comment = None }
lines_after-plain count [] plain = refl
lines_after-plain count (part ∷ parts) plain =
    let first = uncovered-plain (count + 1) part (or-false_left (opens_block (comment_of part)) (begins_with 35 (content_of part)) (or-false_left (is_special part) (list_any is_special parts) plain)) in
    ap (λ (u : Uncovered). before_lines u.text (lines_after (count + 1) u.unclosed parts)) first
    ∙ ap (before_lines part) (lines_after-plain (count + 1) parts (or-false_right (is_special part) (list_any is_special parts) plain))

file_lines-plain : (text : List ℕ) → list_any is_special (parts_of (without_mark text)) ≡ false → file_lines text ≡ record { texts = parts_of (without_mark text); open_comment = None }
unfolding file_lines
file_lines-plain text plain = lines_after-plain 0 (parts_of (without_mark text)) plain

directive_of-none : (content : List ℕ) → begins_with 35 content ≡ false → directive_of content ≡ None
unfolding directive_of
directive_of-none [] plain = refl
directive_of-none (b ∷ bs) plain = ap (λ t. cond {A = Option DirectiveOf} t (Some (directive_by (take (word_length bs) bs) (without_quotes (trim (drop (word_length bs) bs))))) None) plain

-- a plain line is kept, and requests nothing
after_line-plain : (include : FileRequestOf → FilesReadSoFar → FilesReadSoFar) (line : ℕ) (part : List ℕ) (read : FilesReadSoFar) → begins_with 35 (content_of part) ≡ false
    → after_line include 0 false line part read ≡ with_line 0 line part read
unfolding after_line
after_line-plain include line part read plain =
    ap (λ directive. after_directive include (length read.lines) directive (after_comment false (length read.lines) (with_line 0 line part read))) (directive_of-none (content_of part) plain)

-- these lines after those that were read
abbrev with_lines : FilesReadSoFar → List (List ℕ) → ℕ → FilesReadSoFar
with_lines read parts count = record { files = read.files; lines = read.lines ++ numbered_lines count parts; remarks = read.remarks; room = read.room }

after_lines-plain : (include : FileRequestOf → FilesReadSoFar → FilesReadSoFar) (count : ℕ) (parts : List (List ℕ)) (read : FilesReadSoFar) → list_any is_special parts ≡ false
    → after_lines include 0 None count parts read ≡ with_lines read parts count
after_lines-plain include count [] read plain =
    ap (λ lines. let r : FilesReadSoFar = record { files = read.files; lines = lines; remarks = read.remarks; room = read.room } in r) (sym (append-nil read.lines))
after_lines-plain include count (part ∷ parts) read plain =
    let none = or-false_right (opens_block (comment_of part)) (begins_with 35 (content_of part)) (or-false_left (is_special part) (list_any is_special parts) plain) in
    ap (after_lines include 0 None (count + 1) parts) (after_line-plain include (count + 1) part read none)
    ∙ after_lines-plain include (count + 1) parts (with_line 0 (count + 1) part read) (or-false_right (is_special part) (list_any is_special parts) plain)
    ∙ ap (λ lines. let r : FilesReadSoFar = record { files = read.files; lines = lines; remarks = read.remarks; room = read.room } in r)
    (append_assoc read.lines (record { file = 0; line = count + 1; text = part } ∷ []) (numbered_lines (count + 1) parts))

after_text-plain : (include : FileRequestOf → FilesReadSoFar → FilesReadSoFar) (text : List ℕ) (read : FilesReadSoFar) → list_any is_special (parts_of (without_mark text)) ≡ false
    → after_text include 0 text read ≡ with_lines read (parts_of (without_mark text)) 0
unfolding after_text
after_text-plain include text read plain =
    ap (λ (lines : FileLinesOf). after_lines include 0 lines.open_comment 0 lines.texts read) (file_lines-plain text plain)
    ∙ after_lines-plain include 0 (parts_of (without_mark text)) read plain

text_read-short : (text : List ℕ) → length text ≤ 16777216 → text_read 16777216 (Some text) ≡ Bytes text
text_read-short text short = ap (λ t. cond {A = TextRead} t (Bytes text) TooLong) (le-leb (length text) 16777216 short)

-- a plain file is read unchanged
pub plain_is_kept : (files : Files) (name text : List ℕ) → IsPlainFile files name text → reading_of files name ≡ Ok (plain_reading name text)
unfolding reading_of
plain_is_kept files name text p =
    ap (λ found. reading_by files name (text_read 16777216 found)) p.there
    ∙ ap (reading_by files name) (text_read-short text p.short)
    ∙ ap (λ (read : FilesReadSoFar). let done : Result FilesOf ReadingFault = Ok (files_of read) in done) (after_text-plain (including_first files) text (record { files = record { name = name; included_by = None } ∷ []; lines = []; remarks = []; room = 16777216 - length text }) p.plain)
