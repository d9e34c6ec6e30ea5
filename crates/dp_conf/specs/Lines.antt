-- The items of a configuration text, or its first fault.
use Rattle.std.specs.Prelude.{ℕ, ◌+◌, Bool, true, false, not, ◌&&◌, ◌==◌, nat_eq, List, [], ◌∷◌, length, take, drop, Option, Some, None, Result, Ok, Err, codes, if◌then◌else◌}
use Rattle.std.specs.List.{slice_split, list_any, starts_with}
use Rattle.std.specs.Str.{byte}
use Rattle.dp_conf.specs.Answers.{all_of, before_fault, each_after}
use Rattle.dp_conf.specs.Blanks.{trim, trim_start}
use Rattle.dp_conf.specs.Cut.{begins_with, cut_once}
use Rattle.dp_conf.specs.declared.fault.LineKind.{LineKind}
use Rattle.dp_conf.specs.declared.fault.LineKind.TheVariants.{BlockComment, NoSection, BadHeader, NoEquals, Directive, Template}
use Rattle.dp_conf.specs.declared.fault.ConfFault.{ConfFault}
use Rattle.dp_conf.specs.declared.fault.ConfFault.TheVariants.{At, NoMemory}

-- a faulty line, counted from 1, and its fault
pub record LineFault : Type 0 where
  pub line : ℕ
  pub kind : LineKind

-- an item of a text, with the number of its line, counted from 1: the header of a section with its name, or a key with a value
pub data LineOf : Type 0 where
  Header : ℕ → List ℕ → LineOf
  Pair : ℕ → List ℕ → List ℕ → LineOf

-- whether an item is a header
abbrev pub is_header : LineOf → Bool
is_header (Header line name) = true
is_header (Pair line key value) = false

-- the byte order mark of a text: EF BB BF
abbrev pub byte_order_mark : List ℕ
byte_order_mark = 239 ∷ 187 ∷ 191 ∷ []

-- the text without the byte order mark at its start
abbrev pub without_mark : List ℕ → List ℕ
without_mark text = if starts_with nat_eq text byte_order_mark then drop 3 text else text

-- the byte that ends a line
abbrev pub line_feed : ℕ
line_feed = 10

-- the parts of a text between its line feeds
abbrev pub parts_of : List ℕ → List (List ℕ)
parts_of text = slice_split (λ b. b == line_feed) text

-- the number of bytes before the first `;` without a `\` directly before it
abbrev pub comment_start : ℕ → List ℕ → ℕ
comment_start previous [] = 0
comment_start previous (b ∷ bs) = if b == byte ";" && not (previous == byte "\\") then 0 else 1 + comment_start b bs

-- the comment of a part with its `;`, or nothing
abbrev pub comment_of : List ℕ → List ℕ
comment_of part = drop (comment_start line_feed part) part

-- a comment that begins a block: `;--` but no third dash
abbrev pub opens_block : List ℕ → Bool
opens_block comment = starts_with nat_eq comment (codes ";--") && not (starts_with nat_eq comment (codes ";---"))

-- the bytes with each `\;` replaced by `;`: a `\` directly before a `;` is left out
abbrev pub without_escapes : List ℕ → List ℕ
without_escapes [] = []
without_escapes (b ∷ bs) = if b == byte "\\" && starts_with nat_eq bs (codes ";") then without_escapes bs else b ∷ without_escapes bs

-- the content of a part: the text before its comment, unescaped and trimmed
abbrev pub content_of : List ℕ → List ℕ
content_of part = trim (without_escapes (take (comment_start line_feed part) part))

-- a header, given its trimmed name and the text after its `]`, from the first byte that is not a blank
abbrev pub header_by : ℕ → List ℕ → List ℕ → Result (List LineOf) LineKind
header_by line [] after = Err BadHeader
header_by line (n ∷ name) [] = Ok (Header line (n ∷ name) ∷ [])
header_by line (n ∷ name) (b ∷ after) = Err (if b == byte "(" then Template else BadHeader)

-- a header, given the text after its `[`, cut at the `]`
abbrev pub header_of : ℕ → Option (List ℕ × List ℕ) → Result (List LineOf) LineKind
header_of line None = Err BadHeader
header_of line (Some cut) = header_by line (trim cut.0) (trim_start cut.1)

-- a `>` directly after the `=` belongs to the sign
abbrev pub after_sign : List ℕ → List ℕ
after_sign [] = []
after_sign (b ∷ bs) = if b == byte ">" then bs else b ∷ bs

-- a pair, given a text that is cut at the first `=`
abbrev pub pair_of : ℕ → Option (List ℕ × List ℕ) → Result (List LineOf) LineKind
pair_of line None = Err NoEquals
pair_of line (Some cut) = Ok (Pair line (trim cut.0) (trim (after_sign cut.1)) ∷ [])

-- the item of a content, if it has one, given whether a section has begun; a pair is allowed only in a section
abbrev pub item_of : Bool → ℕ → List ℕ → Result (List LineOf) LineKind
item_of in_section line [] = Ok []
item_of in_section line (b ∷ bs) =
    if b == byte "[" then header_of line (cut_once (byte "]") bs)
    else if b == byte "#" then Err Directive
    else if in_section then pair_of line (cut_once (byte "=") (b ∷ bs))
    else Err NoSection

-- the item of a part: a block comment is refused before anything else
abbrev pub part_item : Bool → ℕ → List ℕ → Result (List LineOf) LineKind
part_item in_section line part =
    if opens_block (comment_of part) then Err BlockComment else item_of in_section line (content_of part)

-- a part begins a section if its content begins with `[`
abbrev pub opens_section : List ℕ → Bool
opens_section part = begins_with (byte "[") (content_of part)

-- the fault of a line, at its number
abbrev pub at_line : {X : Type 0} → ℕ → Result X LineKind → Result X LineFault
at_line line (Ok x) = Ok x
at_line line (Err fault) = Err (record { line = line; kind = fault })

-- the reading of a part, given the parts before it
abbrev pub reading_of : List (List ℕ) → List ℕ → Result (List LineOf) LineFault
reading_of before part =
    at_line (length before + 1) (part_item (list_any opens_section before) (length before + 1) part)

-- the items of a text in order, or the fault of its first faulty line
unfoldable pub lines_of : List ℕ → Result (List LineOf) LineFault
lines_of text = all_of (each_after reading_of [] (parts_of (without_mark text)))

-- the items of the lines before the first faulty one, or all if none is faulty
unfoldable pub items_before_fault : List ℕ → List LineOf
items_before_fault text = before_fault (each_after reading_of [] (parts_of (without_mark text)))

-- the faulty line that a fault names; out-of-memory names none
abbrev pub line_fault : ConfFault → Option LineFault
line_fault (At line kind) = Some (record { line = line; kind = kind })
line_fault NoMemory = None
